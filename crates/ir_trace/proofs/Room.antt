-- Room for events, by how many bytes the shortest has.
use Rattle.std.proofs.Common.{ℕ, ◌+◌, ◌*◌, ◌/◌, ◌<◌, ◌≤◌, min, arith}
use Rattle.ir_thread.specs.declared.profile.Profile.{Profile}
use Rattle.ir_thread.specs.declared.profile.Profile.TheVariants.{One, Two}
use Rattle.ir_trace.specs.Results.{shortest}

-- after one event more
pub event_room_step : (p : Profile) (i bytes rest after : ℕ) → i * shortest p + rest ≤ bytes → after + shortest p ≤ rest
    → (i + 1) * shortest p + after ≤ bytes
event_room_step One i bytes rest after so_far one = omega (arith, so_far, one)
event_room_step Two i bytes rest after so_far one = omega (arith, so_far, one)

-- there is room for an event that was there
pub next_event_has_room : (p : Profile) (i count bytes rest after : ℕ) → i < count → i * shortest p + rest ≤ bytes → after + shortest p ≤ rest
    → i < min count (bytes / shortest p)
next_event_has_room One i count bytes rest after lt so_far one = omega (arith, lt, so_far, one)
next_event_has_room Two i count bytes rest after lt so_far one = omega (arith, lt, so_far, one)
