-- What the fields of a line say, in plain lists: one or two are asked for, and those of a line that may not follow say BadLine, whatever they are. Assumes nothing.
use Prim.Native.Nat.{ℕ}
use mathlib.Core.Path.{◌≡◌, refl}
use mathlib.Core.List.{List}
use mathlib.Core.Logic.{◌⊎◌, inl, inr}
use mathlib.Core.Bool.{false}
use Rattle.model.specs.declared.answer.Answer.TheVariants.{BadLine}
use Rattle.model.specs.Job as model
use Rattle.model.specs.Text.{scaled_of}
use Rattle.model.specs.ReadJob.{wrong, floor_line, track_line, cart_line, call_line, may_follow, field_count, fields_say}
use Rattle.model.specs.ReadJob as read

module _ (j : model.Job) (k : read.Kind) (fs : List (List ℕ)) where
  pub fields_out : may_follow j k ≡ false → fields_say scaled_of j k fs ≡ wrong BadLine
  fields_out m = simp m

pub count_few : (k : read.Kind) → (field_count k ≡ 1) ⊎ (field_count k ≡ 2)
count_few floor_line = inl refl
count_few track_line = inr refl
count_few cart_line = inl refl
count_few (call_line q) = inr refl
