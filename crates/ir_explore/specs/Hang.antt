-- What `ir explore --until hang` finds, and what it writes.
use Rattle.std.specs.Prelude.{◌≡◌, ◌⊎◌, ℕ, ◌+◌, List, [], ◌∷◌, codes, Some, None, Result, Ok, Err, nat_le, if◌then◌else◌}
use Rattle.std.specs.String.{string_bytes}
use Rattle.ir_search.specs.declared.search.Ended.{Ended}
use Rattle.ir_search.specs.declared.search.Ended.TheVariants.{Finished, Covered, Stopped}
use Rattle.ir_files.specs.Writers.{Writer, Failed}
use Rattle.ir_files.specs.declared.exit_status.ExitStatus.{ExitStatus}
use Rattle.ir_files.specs.declared.exit_status.ExitStatus.TheVariants.{NotSo, GaveUp}
use Rattle.ir_image.specs.Guest.{Guest, guest_at}
use Rattle.ir_order.specs.Spelling.{IsListOf}
use Rattle.ir_outcomes.specs.declared.shown.Shown.{Shown}
use Rattle.ir_record.specs.Recording.{turns_of_items}
use Rattle.ir_record.specs.declared.item.Item.{Item}
use Rattle.ir_record_command.specs.Plan.{Plan}
use Rattle.ir_record_command.specs.Recording.{IsRecordedOf}
use Rattle.ir_thread.specs.State.{IsAllowed, most_budget}
use Rattle.ir_trace.specs.Recorded.{Recorded}
use Rattle.ir_explore.specs.Faults.{HasNoGuest}
use Rattle.ir_explore.specs.Plan.{ExplorePlan}
use Rattle.ir_explore.specs.Texts.{Known, AreKnown, IsKnownText, IsStopped}
use Rattle.ir_explore.specs.Until.{recording}
use Rattle.ir_record_command.specs.Faults.{fault_status}
use Rattle.ir_record_command.specs.Stopping.{Tellings, Devices, devices, LeavesRecording}
use Rattle.ir_record_command.specs.declared.record_fault.RecordFault.{RecordFault}
use Rattle.ir_explore.specs.Stopping.{WritesOnly, TellsNoAnswer}
use Rattle.std.specs.Io.KnownBytes.{Appends}
use Rattle.ir_explore.specs.declared.fault.ExploreFault.{ExploreFault}
use Rattle.ir_explore.specs.declared.fault.ExploreFault.TheVariants.{Image, TooLarge, NoMem, Write}
use Rattle.ir_explore.specs.declared.hang_order.HangOrder.{HangOrder}

-- a budget and so many steps more, but no more than the highest budget
abbrev pub with_steps : ℕ → ℕ → ℕ
with_steps budget count = if nat_le (budget + count) most_budget then budget + count else most_budget

-- how many steps the turns of items take, and one that spends the budget: no thread spends it before it has taken its own
abbrev pub budget_from : ℕ → List Item → ℕ
budget_from budget [] = budget
budget_from budget (x ∷ items) = budget_from (with_steps budget x.count) items

-- the list by which a run that hangs is recorded: one of no turns is begun by a step of thread 0, since each list has an item
abbrev pub begun : List ℕ → List ℕ
begun [] = codes "0"
begun (b ∷ list) = b ∷ list

-- a list leads to the hang of these turns, within the budget
pub record LeadsToHang (x : Shown) (order : HangOrder) : Type 0 where
  pub list : List ℕ
  pub listed : IsListOf list (turns_of_items x.turns.items)
  pub begins : string_bytes order.list ≡ begun list
  pub budget : order.budget ≡ budget_from 1 x.turns.items

-- the exit status of a search that knows of no hang
abbrev pub unhung_status_of : Ended → ExitStatus
unhung_status_of Finished = NotSo
unhung_status_of Covered = GaveUp
unhung_status_of (Stopped why) = GaveUp

-- the order of a hang, if one is known; if the search is finished and none is, no run of the guest hangs
abbrev pub FindsHang : Known → Result HangOrder ExitStatus → Type 0
FindsHang k (Ok order) = (x : Shown) × (k.hang ≡ Some x) × LeadsToHang x order
FindsHang k (Err answered) = (k.hang ≡ None) × (answered ≡ unhung_status_of k.ended)

-- what was found out about the guest is printed, as without conditions
pub record IsHangSearch (guest : Guest) (plan : ExplorePlan) (found : Result HangOrder ExitStatus) (text : List ℕ) : Type 0 where
  pub known : Known
  pub are : AreKnown guest plan known
  pub printed : (alone : ExitStatus) × IsKnownText guest known alone text
  pub finds : FindsHang known found

-- or the search didn't begin
abbrev pub IsHangTold : Guest → ExplorePlan → Result HangOrder ExitStatus → List ℕ → Type 0
IsHangTold guest plan found text = IsHangSearch guest plan found text
    ⊎ ((answered : ExitStatus) × (found ≡ Err answered) × IsStopped guest plan answered text)

-- the same of the guest that these bytes encode, which the profile allows
pub record IsHangAnswer (image : List ℕ) (plan : ExplorePlan) (found : Result HangOrder ExitStatus) (text : List ℕ) : Type 0 where
  pub guest : Guest
  pub is : guest_at image ≡ Ok guest
  pub allowed : IsAllowed plan.profile guest
  pub says : IsHangTold guest plan found text

-- how a hang is recorded
abbrev pub hang_plan : ExplorePlan → HangOrder → Plan
hang_plan plan order = record (recording plan (Some (string_bytes order.list))) { budget = order.budget }

-- the run by the order of the hang is recorded: its trace, and what its threads printed
abbrev pub IsHangRecorded : List ℕ → ExplorePlan → HangOrder → List ℕ → Recorded → List (List ℕ) → Type 0
IsHangRecorded image plan order text trace outputs = IsHangAnswer image plan (Ok order) text × IsRecordedOf image (hang_plan plan order) trace outputs

-- why there is no answer: as with conditions
abbrev pub HasNoHangAnswer : ExploreFault → List ℕ → ExplorePlan → Writer → Type 0
HasNoHangAnswer (Image e) image plan w = HasNoGuest (Image e) image plan w
HasNoHangAnswer TooLarge image plan w = HasNoGuest TooLarge image plan w
HasNoHangAnswer NoMem image plan w = HasNoGuest NoMem image plan w
HasNoHangAnswer Write image plan w = (found : Result HangOrder ExitStatus) × (text : List ℕ) × IsHangAnswer image plan found text × Failed w text

-- a hang is told, and the recording of its run stopped
abbrev pub StopsAfterHang : {W P O : Type 0} → Tellings W P O → ExitStatus → List ℕ → ExplorePlan → Devices W P O → Devices W P O → Writer → Type 0
StopsAfterHang {W} {P} {O} d status image plan old new reports = (e : RecordFault) × (status ≡ fault_status e) × (order : HangOrder) × (text : List ℕ) × (said : O)
    × IsHangAnswer image plan (Ok order) text × Appends (d.took old.lines) (d.took said) text
    × LeavesRecording d e image (hang_plan plan order) (devices old.trace old.outputs said) new reports

-- a search for a hang ended without a recording, with a status
abbrev pub StopsHang : {W P O : Type 0} → Tellings W P O → ExitStatus → List ℕ → ExplorePlan → Devices W P O → Devices W P O → Writer → Type 0 → Type 0
StopsHang d status image plan old new reports same = WritesOnly d (IsHangAnswer image plan (Err status)) old new same
    ⊎ (TellsNoAnswer d (λ e lines. HasNoHangAnswer e image plan lines) status old new reports
    ⊎ StopsAfterHang d status image plan old new reports)
