-- Breakpoints and watches that gdb sets and takes away.
use Rattle.std.specs.Prelude.{ℕ, ◌+◌, ◌*◌, ◌%◌, ◌==◌, ◌&&◌, ◌||◌, not, nat_lt, nat_le, Bool, true, false, List, [], ◌∷◌, ◌++◌, length, find, is_some, if◌then◌else◌}
use Rattle.std.specs.List.{filter}
use Rattle.ir_image.specs.Guest.{Guest, object_count}
use Rattle.ir_mach.specs.Execution.{lies_in_memory}
use Rattle.ir_hits.specs.Hits.{objects_start, object_size}
use Rattle.ir_debug.specs.Machine.{lies_in_code}
use Rattle.ir_packet.specs.declared.reply.Reply.{Reply}
use Rattle.ir_packet.specs.declared.reply.Reply.TheVariants as reply
use Rattle.ir_gdb.specs.declared.point.Breakpoint.{Breakpoint}
use Rattle.ir_gdb.specs.declared.point.Watched.{Watched}
use Rattle.ir_gdb.specs.declared.point.Setting.{Setting}
use Rattle.ir_gdb.specs.declared.point.Setting.TheVariants as setting
use Rattle.ir_gdb.specs.Guards.{Guarded}
use Rattle.ir_gdb.specs.Stub.{Stub, most_stub_points, most_watched}

-- ---- which are the same

abbrev pub same_way : Bool → Bool → Bool
same_way true other = other
same_way false other = not other

abbrev pub is_same_break : Breakpoint → Breakpoint → Bool
is_same_break a b = (a.address == b.address) && same_way a.hardware b.hardware

abbrev pub is_same_watch : Watched → Watched → Bool
is_same_watch a b = (a.address == b.address) && (a.size == b.size)

abbrev pub has_break : List Guarded → Breakpoint → Bool
has_break breaks b = is_some (find (λ x. is_same_break x.point b) breaks)

abbrev pub has_watch : List Watched → Watched → Bool
has_watch watches w = is_some (find (λ x. is_same_watch x w) watches)

abbrev pub breaks_without : List Guarded → Breakpoint → List Guarded
breaks_without breaks b = filter (λ x. not (is_same_break x.point b)) breaks

abbrev pub watches_without : List Watched → Watched → List Watched
watches_without watches w = filter (λ x. not (is_same_watch x w)) watches

-- ---- where they may be

-- the address of a word of the code
abbrev pub is_code_word : Guest → ℕ → Bool
is_code_word g address = (address % 4 == 0) && lies_in_code g 4 address

-- whether bytes from an address on are all of objects that the guest has
abbrev pub lies_in_objects : Guest → ℕ → ℕ → Bool
lies_in_objects g width address = nat_le objects_start address && nat_le (address + width) (objects_start + object_size * object_count g)

-- a few bytes, all of private memory or all of objects
abbrev pub can_watch : Guest → Watched → Bool
can_watch g w = nat_lt 0 w.size && (nat_le w.size most_watched && (lies_in_memory w.size w.address || lies_in_objects g w.size w.address))

-- ---- what becomes of one that is set

-- by whether it is there, and whether there is room
abbrev pub room_setting : Stub → Bool → Setting
room_setting s true = setting.There
room_setting s false = if nat_lt (length s.breaks + length s.watches) most_stub_points then setting.New else setting.Full

abbrev pub break_setting : Stub → Breakpoint → Setting
break_setting s b = if is_code_word s.desk.fitted.guest b.address then room_setting s (has_break s.breaks b) else setting.BadAddress

abbrev pub watch_setting : Stub → Watched → Setting
watch_setting s w = if can_watch s.desk.fitted.guest w then room_setting s (has_watch s.watches w) else setting.BadAddress

abbrev pub setting_reply : Setting → Reply
setting_reply setting.BadAddress = reply.BadAddress
setting_reply setting.There = reply.Done
setting_reply setting.Full = reply.NoSpace
setting_reply setting.New = reply.Done

-- one that is there gets other conditions
abbrev pub add_break : Stub → Guarded → Setting → Stub
add_break s b setting.New = record s { breaks = s.breaks ++ b ∷ [] }
add_break s b setting.BadAddress = s
add_break s b setting.There = record s { breaks = breaks_without s.breaks b.point ++ b ∷ [] }
add_break s b setting.Full = s

abbrev pub add_watch : Stub → Watched → Setting → Stub
add_watch s w setting.New = record s { watches = s.watches ++ w ∷ [] }
add_watch s w setting.BadAddress = s
add_watch s w setting.There = s
add_watch s w setting.Full = s

abbrev pub with_break : Stub → Guarded → Stub
with_break s b = add_break s b (break_setting s b.point)

abbrev pub with_watch : Stub → Watched → Stub
with_watch s w = add_watch s w (watch_setting s w)

-- ---- one that is taken away

abbrev pub address_reply : Bool → Reply
address_reply true = reply.Done
address_reply false = reply.BadAddress

abbrev pub clear_break_reply : Stub → Breakpoint → Reply
clear_break_reply s b = address_reply (is_code_word s.desk.fitted.guest b.address)

abbrev pub clear_watch_reply : Stub → Watched → Reply
clear_watch_reply s w = address_reply (can_watch s.desk.fitted.guest w)

abbrev pub without_break : Stub → Breakpoint → Stub
without_break s b = if is_code_word s.desk.fitted.guest b.address then record s { breaks = breaks_without s.breaks b } else s

abbrev pub without_watch : Stub → Watched → Stub
without_watch s w = if can_watch s.desk.fitted.guest w then record s { watches = watches_without s.watches w } else s
