-- `read_map` meets its contract: each of the first four lines is said or is the first bad one, and `read_rows` reads the others. Assumes nothing.
use Prim.Native.Nat.{◌+◌, ◌<◌, ◌≤◌}
use mathlib.Core.Path.{◌≡◌, refl, sym, ap, subst}
use mathlib.Core.Bool.{not}
use native.Mathlib.Omega.{arith}
use Rattle.model.specs.Bytes.{bytes}
use Rattle.model.specs.Limits.{max_side}
use Rattle.model.specs.GridMap.{word_line, size_line}
use Rattle.gridmap.specs.Lines.{SaidAt}
use Rattle.gridmap.specs.Drawing.{Draws}
use Rattle.gridmap.proofs.Whole.{no_word, is_word, no_size, is_size, first_bad, second_bad, third_bad, fourth_bad, past_fourth}
use Rattle.gridmap.proofs.read.read_map.Goals as goal
use Rattle.gridmap.proofs.read.read_map.Goals.{Else-not-word_line, Else-not-word_line-2, In-Some, In-Some-size_line}

pub returns-then-not-word_line : goal.returns-then-not-word_line
returns-then-not-word_line c =
    let s = c.args.map.now in
    (first_bad s (no_word (bytes "type octile") s 0 c.word_line.result (ap not c.if-not-word_line.true) c.word_line.ensures), omega arith)

first : (c : Else-not-word_line) → SaidAt (word_line (bytes "type octile")) c.args.map.now 0 (bytes "type octile") 12
first c = let s = c.args.map.now in is_word (bytes "type octile") s 0 c.word_line.result (ap not c.if-not-word_line.false) c.word_line.ensures

pub size_line-requires : goal.size_line-requires
size_line-requires c = ((first (goal.at.size_line-requires c).Else-not-word_line).inside, refl)

pub returns-in_default : goal.returns-in_default
returns-in_default c =
    let s = c.args.map.now in (
      second_bad s (first (goal.at.returns-in_default c).Else-not-word_line) (no_size (bytes "height ") s 12 c.size_line.result c.in_default.is c.size_line.ensures),
      omega arith,
    )

second : (c : In-Some) → let v = c.in-Some.field-0 in SaidAt (size_line (bytes "height ")) c.args.map.now 12 v.value v.next × (0 < v.value) × (v.value ≤ max_side)
second c = let v = c.in-Some.field-0 in is_size (bytes "height ") c.args.map.now 12 c.size_line.result v.value v.next c.in-Some.is c.size_line.ensures

pub size_line-requires-2 : goal.size_line-requires-2
size_line-requires-2 c = ((second (goal.at.size_line-requires-2 c).In-Some).0.inside, refl)

pub returns-in_default-size_line : goal.returns-in_default-size_line
returns-in_default-size_line c =
    let s = c.args.map.now in
    let u = no_size (bytes "width ") s c.in-Some.field-0.next c.size_line-2.result c.in_default-size_line.is c.size_line-2.ensures in
    (third_bad s (first (goal.at.returns-in_default-size_line c).Else-not-word_line) (second (goal.at.returns-in_default-size_line c).In-Some).0 u, omega arith)

third : (c : In-Some-size_line) → let v = c.in-Some.field-0 in let w = c.in-Some-size_line.field-0 in
    SaidAt (size_line (bytes "width ")) c.args.map.now v.next w.value w.next × (0 < w.value) × (w.value ≤ max_side)
third c =
    let v = c.in-Some.field-0 in
    let w = c.in-Some-size_line.field-0 in
    is_size (bytes "width ") c.args.map.now v.next c.size_line-2.result w.value w.next c.in-Some-size_line.is c.size_line-2.ensures

pub word_line-requires-2 : goal.word_line-requires-2
word_line-requires-2 c = ((third (goal.at.word_line-requires-2 c).In-Some-size_line).0.inside, refl)

pub returns-then-not-word_line-2 : goal.returns-then-not-word_line-2
returns-then-not-word_line-2 c =
    let s = c.args.map.now in
    let u = no_word (bytes "map") s c.in-Some-size_line.field-0.next c.word_line-2.result (ap not c.if-not-word_line-2.true) c.word_line-2.ensures in (
      fourth_bad s (first (goal.at.returns-then-not-word_line-2 c).Else-not-word_line) (second (goal.at.returns-then-not-word_line-2 c).In-Some).0 (third
          (goal.at.returns-then-not-word_line-2 c).In-Some-size_line).0 u,
      omega arith,
    )

fourth : (c : Else-not-word_line-2) → SaidAt (word_line (bytes "map")) c.args.map.now c.in-Some-size_line.field-0.next (bytes "map") (c.in-Some-size_line.field-0.next + 3 + 1)
fourth c =
    is_word (bytes "map") c.args.map.now c.in-Some-size_line.field-0.next c.word_line-2.result (ap not c.if-not-word_line-2.false) c.word_line-2.ensures

pub overflow_add-fourth : goal.overflow_add-fourth
overflow_add-fourth c = record { fits = omega (arith, (fourth (goal.at.overflow_add-fourth c).Else-not-word_line-2).inside) }

pub read_rows-requires : goal.read_rows-requires
read_rows-requires c =
    let h = second (goal.at.read_rows-requires c).In-Some in
    let w = third (goal.at.read_rows-requires c).In-Some-size_line in
    (omega (arith, (fourth (goal.at.read_rows-requires c).Else-not-word_line-2).inside), h.2, w.2)

pub returns : goal.returns
returns c =
    let s = c.args.map.now in
    let e : c.in-Some-size_line.field-0.next + 3 + 1 ≡ c.in-Some-size_line.field-0.next + 4 = omega arith in
    let q = past_fourth s (first (goal.at.returns c).Else-not-word_line) (second (goal.at.returns c).In-Some).0
    (third (goal.at.returns c).In-Some-size_line).0 (fourth (goal.at.returns c).Else-not-word_line-2) in
    subst (λ d. Draws d c.read_rows.new.places c.read_rows.result) (sym (rw e at q)) c.read_rows.ensures
