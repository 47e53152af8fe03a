-- A thread apart from its private memory.
use Rattle.std.specs.Prelude.{ℕ, List, Option}
use Rattle.ir_image.specs.declared.form.ImageForm.{ImageForm}
use Rattle.ir_mach.specs.Pages.{RegisterFile, register_file, core_of}
use Rattle.ir_runs.specs.declared.access.Access.{Access}
use Rattle.ir_thread.specs.declared.end.End.{End}
use Rattle.ir_thread.specs.declared.profile.Profile.{Profile}
use Rattle.ir_thread.specs.State.{ThreadState}

-- a thread without its private memory
pub record ThreadFrame : Type 0 where
  pub registers : RegisterFile
  pub number : ℕ
  pub held : List (Option Access)
  pub budget : ℕ
  pub profile : Profile
  pub form : ImageForm
  pub steps : ℕ
  pub events : ℕ
  pub output : List ℕ
  pub ended : Option End

abbrev pub frame_of : ThreadState → ThreadFrame
frame_of s = record {
  registers = register_file s.core;
  number = s.number;
  held = s.held;
  budget = s.budget;
  profile = s.profile;
  form = s.form;
  steps = s.steps;
  events = s.events;
  output = s.output;
  ended = s.ended;
}

-- the thread with this frame and these pages
abbrev pub framed_thread : ThreadFrame → List (List ℕ) → ThreadState
framed_thread frame pages = record {
  core = core_of frame.registers pages;
  number = frame.number;
  held = frame.held;
  budget = frame.budget;
  profile = frame.profile;
  form = frame.form;
  steps = frame.steps;
  events = frame.events;
  output = frame.output;
  ended = frame.ended;
}
