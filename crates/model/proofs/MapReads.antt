-- The text that is written for a map reads as its job. Its numbers are plain, so that it is read as before exponents. Its tracks rise by their ends, and each leads from a lower cell to a
-- higher one: so no two join the same cells, either way round, and every line passes the reader's tests. The counts pass as a cell has two tracks at most: 256 cells have 512, and lines of at
-- most 14 bytes. Assumes nothing.
use Prim.Native.Nat.{ℕ, suc, ◌+◌, ◌*◌, ◌≤◌, ◌<◌}
use mathlib.Core.Path.{◌≡◌, refl, sym, ap, subst, ◌∙◌}
use mathlib.Core.List.{List, [], ◌∷◌, ◌++◌, map, append_assoc, append-nil}
use mathlib.Core.Logic.{inl, inr, ◌↔◌}
use mathlib.Core.Bool.{Bool, true, false, cond, ◌&&◌, ◌||◌}
use native.Mathlib.Omega.{arith}
use lib.Dec.{eqb, ltb, leb}
use lib.ListN.{length, get_or, length-append}
use borrow.Author.Tests.{ltb-true, leb-true, lt-ltb, le-ltb, le-leb, eqb-true, ne_eqb}
use Rattle.model.specs.declared.answer.Answer.{Answer}
use Rattle.model.specs.declared.answer.Answer.TheVariants.{BadLine, SheetTooShort, NoFloor}
use Rattle.model.specs.Limits.{max_cells, max_tracks, max_text}
use Rattle.model.specs.Lists.{In, Rising, Lex, each_below}
use Rattle.model.specs.Job.{Job, Track, track}
use Rattle.model.specs.Walk.{Arc}
use Rattle.model.specs.Text.{lines_of, fields_of, numeral, fields, line, floor_word, track_word, number_of, numbers_of}
use Rattle.model.specs.SheetText.{lines_text}
use Rattle.model.specs.ReadJob.{Verdict, refused, accepted, Kind, floor_line, track_line, no_job, leads, may_follow, field_count, in_range, has_room, is_new, add, wrong, right}
use Rattle.model.specs.ReadJob.{numbers_say, fields_say, line_says, go_on, lines_say, read_by, read_job}
use Rattle.model.specs.GridMap.{Drawn, bad, drawn, read_map, cell_at, map_cells, cell_number, track_to, tracks_at, tracks_of, track_numbers, map_text, floor_job, NextTo, floor_text, map_verdict}
use Rattle.model.proofs.Basics.{nope, and_left, and_right, and_both}
use Rattle.model.proofs.Lists.{in_left, in_right}
use Rattle.model.proofs.Lex.{lex_on, lex_apart}
use Rattle.model.proofs.Rise.{rising_append, each_rising, rising_across}
use Rattle.model.proofs.AsBefore.{same_job}
use Rattle.model.proofs.Room.{line_room, lines_room}
use Rattle.model.proofs.Written.{AllSmall, numeral_good, line_read, fields_first, fields_apart, numbers_read}
use Rattle.model.proofs.Numbering.{number_rises, number_below, each_in, tracks_few}
use Rattle.model.proofs.Neighbours.{RightOrBelow, Leaves, track-to, track_leaves, track_cells, joined_next, next_joined}

-- The order of the tracks.
abbrev pub TrackBefore : Track → Track → Type 0
TrackBefore s t = Lex s.from s.to t.from t.to

onward_lex : {r c r' c' : ℕ} → RightOrBelow r c r' c' → Lex r c r' c'
onward_lex (inl h) = inr (omega arith, omega arith)
onward_lex (inr h) = inl (omega arith)

module _ (m : List (List ℕ)) where
  leaves_rise : {r c r' c' : ℕ} {s t : Track} → Lex r c r' c' → Leaves m r c s → Leaves m r' c' t → TrackBefore s t
  leaves_rise {r} {c} {r'} {c'} o h k = rw (h.ends, k.ends) (inl (number_rises m r c r' c' h.here o))

  to_rise : (r c r' c' : ℕ) → Rising TrackBefore (track_to m r c r' c')
  to_rise r c r' c' = go (cell_at m r' c')
    where
      go : (b : Bool) → Rising TrackBefore (cond b (track (cell_number m r c) (cell_number m r' c') ∷ []) [])
      go true = tt
      go false = tt

  at_rise : (r c : ℕ) → Rising TrackBefore (tracks_at m r c)
  at_rise r c = go (cell_at m r c)
    where
      two : (s t : Track) → In s (track_to m r c r (suc c)) → In t (track_to m r c (suc r) c) → TrackBefore s t
      two s t h k =
          let (f, p) = track-to m r c r (suc c) s h in
          let (_, q) = track-to m r c (suc r) c t k in
          rw (p, q) (inr (refl, number_rises m r (suc c) (suc r) c f (inl (omega arith))))

      go : (b : Bool) → Rising TrackBefore (cond b (track_to m r c r (suc c) ++ track_to m r c (suc r) c) [])
      go true = rising_append TrackBefore (track_to m r c r (suc c)) (track_to m r c (suc r) c) (to_rise r c r (suc c)) (to_rise r c (suc r) c) two
      go false = tt

  pub tracks_rise : Rising TrackBefore (tracks_of m)
  tracks_rise = each_rising TrackBefore (length m) row row_rise (λ r r' s t h i k.
      let (c, _, x) = each_in s (length (get_or m r [])) (tracks_at m r) i in
      let (c', _, y) = each_in t (length (get_or m r' [])) (tracks_at m r') k in
      leaves_rise (inl h) (track_leaves m r c s x) (track_leaves m r' c' t y))
    where
      row : ℕ → List Track
      row r = each_below (length (get_or m r [])) (λ c. tracks_at m r c)

      row_rise : (r : ℕ) → Rising TrackBefore (row r)
      row_rise r = each_rising TrackBefore (length (get_or m r [])) (tracks_at m r) (at_rise r)
          (λ c c' s t h i k. leaves_rise (inr (refl, h)) (track_leaves m r c s i) (track_leaves m r c' t k))

  pub track_known : (t : Track) → In t (tracks_of m) → (t.from < t.to) × (t.to < map_cells m)
  track_known t h =
      let (r, c, k) = track_cells m t h in
      rw k.ends (number_rises m r c k.row k.column k.here (onward_lex k.onward), number_below m k.row k.column k.there)

  pub text_room : length (map_text m) ≤ 10 + 28 * map_cells m
  text_room =
      omega (
        arith,
        length-append (line floor_word (map_cells m ∷ [])) (lines_text (λ t. track_word) track_numbers (tracks_of m)),
        line_room floor_word (map_cells m ∷ []),
        lines_room (λ t. track_word) track_numbers 14 (tracks_of m) (λ t _. line_room track_word (track_numbers t)),
        tracks_few m,
      )

-- A line that passes its tests says the job with it.
line_passes : (j : Job) (k : Kind) (n : ℕ) (ns : List ℕ) → AllSmall (n ∷ ns) → eqb (length (map numeral (n ∷ ns))) (field_count k) ≡ true → may_follow j k ≡ true
    → in_range j k n (get_or ns 0 0) ≡ true → has_room j k ≡ true → is_new j k n (get_or ns 0 0) ≡ true
    → fields_say number_of j k (fields_of (numeral n ++ fields ns)) ≡ right (add j k n (get_or ns 0 0))
line_passes j k n ns h count follows range room new =
    ap (fields_say number_of j k) (fields_first (numeral n) (fields ns) (map numeral ns) (numeral_good n h.0).0 (fields_apart ns h.1))
    ∙ ap (λ x. cond x (numbers_say j k (numbers_of (map numeral (n ∷ ns)))) (wrong BadLine)) (and_both (may_follow j k) _ follows count)
    ∙ ap (numbers_say j k) (numbers_read (n ∷ ns) h)
    ∙ rw (range, room, new)

leads_none : (a b : ℕ) (ts : List Track) → ((t : Track) → In t ts → a ≡ t.from → b ≡ t.to → ⊥) → leads a b ts ≡ false
leads_none a b [] h = refl
leads_none a b (t ∷ ts) h = go (eqb a t.from) refl (eqb b t.to) refl (leads_none a b ts (λ s i. h s (inr i)))
  where
    go : (x : Bool) → eqb a t.from ≡ x → (y : Bool) → eqb b t.to ≡ y → leads a b ts ≡ false → ((x && y) || leads a b ts) ≡ false
    go true p true q e = absurd (h t (inl refl) (eqb-true a t.from p) (eqb-true b t.to q))
    go true p false q e = e
    go false p y q e = e

-- A floor of n cells and the tracks so far.
abbrev floor_of : ℕ → List Track → Job
floor_of n ts = record { cells = n; tracks = ts; carts = []; calls = [] }

module _ (n : ℕ) (ts : List Track) (some : 0 < n) (few : n ≤ max_cells) (rise : Rising TrackBefore ts) (known : (t : Track) → In t ts → (t.from < t.to) × (t.to < n))
    (room : length ts ≤ max_tracks) where
  track_said : (got rest : List Track) (t : Track) → got ++ (t ∷ rest) ≡ ts → line_says number_of (floor_of n got) (track_word ++ fields (track_numbers t)) ≡ right (floor_of n (got ++ (t ∷ [])))
  track_said got rest t e =
      let old : (s : Track) → In s got → TrackBefore s t = λ s i. rising_across TrackBefore (λ x y z. lex_on) got (t ∷ rest) (rw e rise) s t i (inl refl) in
      let up : (s : Track) → In s got → s.from < s.to = λ s i. (known s (rw e at (in_left s got (t ∷ rest) i))).0 in
      let k = known t (rw e at (in_right t got (t ∷ rest) (inl refl))) in
      let new : is_new (floor_of n got) track_line t.from t.to ≡ true = rw (
        ne_eqb t.from t.to (λ h. omega arith),
        leads_none t.from t.to got (λ s i f g. lex_apart (old s i) (sym f) (sym g)),
        leads_none t.to t.from got (λ s i f g. omega (arith, up s i)),
      ) in
      line_passes (floor_of n got) track_line t.from (t.to ∷ []) (omega arith, (omega arith, tt)) refl (rw (lt-ltb 0 n some))
      (and_both (ltb t.from n) (ltb t.to n) (lt-ltb t.from n (omega arith)) (lt-ltb t.to n k.1))
      (lt-ltb (length got) max_tracks (omega (arith, length-append got (t ∷ rest), ap length e))) new

  tracks_say : (got rest : List Track) (k : ℕ) → got ++ rest ≡ ts → lines_say number_of (floor_of n got) k (lines_of (lines_text (λ t. track_word) track_numbers rest)) ≡ accepted (floor_of n ts)
  tracks_say got [] k e = rw (ne_eqb n 0 (λ h. omega arith)) (ap (λ l. accepted (floor_of n l)) (sym (append-nil got) ∙ e))
  tracks_say got (t ∷ rest) k e =
      let h = known t (rw e at (in_right t got (t ∷ rest) (inl refl))) in
      ap (lines_say number_of (floor_of n got) k) (line_read track_word (track_numbers t) (lines_text (λ t. track_word) track_numbers rest) refl (omega arith, (omega arith, tt)))
      ∙ ap (λ x. go_on x k (λ j. lines_say number_of j (k + 1) (lines_of (lines_text (λ t. track_word) track_numbers rest)))) (track_said got rest t e)
      ∙ tracks_say (got ++ (t ∷ [])) rest (k + 1) (append_assoc got (t ∷ []) rest ∙ e)

plain_reads : (m : List (List ℕ)) → 0 < map_cells m → map_cells m ≤ max_cells → read_by number_of (map_text m) ≡ accepted (floor_job m)
plain_reads m some few =
    let n = map_cells m in
    rw (le-ltb max_text (length (map_text m)) (omega (arith, text_room m)))
    (ap (lines_say number_of no_job 1) (line_read floor_word (n ∷ []) (lines_text (λ t. track_word) track_numbers (tracks_of m)) refl (omega arith, tt))
    ∙ ap (λ x. go_on x 1 (λ j. lines_say number_of j 2 (lines_of (lines_text (λ t. track_word) track_numbers (tracks_of m)))))
    (line_passes no_job floor_line n [] (omega arith, tt) refl refl (and_both (ltb 0 n) (leb n max_cells) (lt-ltb 0 n some) (le-leb n max_cells few)) refl refl)
    ∙ tracks_say n (tracks_of m) some few (tracks_rise m) (track_known m) (omega (arith, tracks_few m)) [] (tracks_of m) 2 refl)

pub map_reads : (m : List (List ℕ)) → 0 < map_cells m → map_cells m ≤ max_cells → read_job (map_text m) ≡ accepted (floor_job m)
map_reads m some few = same_job (map_text m) (floor_job m) (plain_reads m some few)

-- The text b is that of the map in d, reads as its job, and fits.
abbrev pub WritesFloor : Drawn → ℕ → List ℕ → Type 0
WritesFloor d room b =
    (m : List (List ℕ)) × (d ≡ drawn m) × (b ≡ map_text m) × (read_job b ≡ accepted (floor_job m)) × (length (tracks_of m) ≤ max_tracks) × (length b ≤ room)

accepted_then : {A : Type 0} (t : Bool) (x : Verdict A) (n : Answer) (b : A) → cond t x (refused n 0) ≡ accepted b → (t ≡ true) × (x ≡ accepted b)
accepted_then true x n b e = (refl, e)
accepted_then false x n b e = nope (cc)

written : (d : Drawn) (room : ℕ) (b : List ℕ) → floor_text room d ≡ accepted b → WritesFloor d room b
written (bad l) room b e = nope (cc)
written (drawn m) room b e =
    let n = map_cells m in
    let (p, f) = accepted_then (ltb 0 n && leb n max_cells) _ NoFloor b e in
    let (q, g) = accepted_then (leb (length (map_text m)) room) (accepted (map_text m)) SheetTooShort b f in
    let few : n ≤ max_cells = leb-true n max_cells (and_right (ltb 0 n) (leb n max_cells) p) in
    let same : map_text m ≡ b = cc in (
      m,
      refl,
      sym same,
      rw same at (map_reads m (ltb-true 0 n (and_left (ltb 0 n) (leb n max_cells) p)) few),
      omega (arith, tracks_few m),
      omega (arith, leb-true (length (map_text m)) room q, ap length same),
    )

pub written_reads : (s : List ℕ) (room : ℕ) (b : List ℕ) → map_verdict s room ≡ accepted b → WritesFloor (read_map s) room b
written_reads s room b e = written (read_map s) room b e

-- On the floor that the written lines say two cells of the map are joined exactly if they are next to each other.
pub written_joined : (s : List ℕ) (room : ℕ) (b : List ℕ) (j : Job) → map_verdict s room ≡ accepted b → read_job b ≡ accepted j
    → (m : List (List ℕ)) × (read_map s ≡ drawn m)
    × ((r c r' c' : ℕ) → cell_at m r c ≡ true → cell_at m r' c' ≡ true → Arc j (cell_number m r c) (cell_number m r' c') ↔ NextTo r c r' c')
written_joined s room b j e f =
    let (m, d, t, q, few, fits) = written_reads s room b e in
    let g : floor_job m ≡ j = accepted_same (sym q ∙ f) in (
      m,
      d,
      λ r c r' c' x y.
          let u = cell_number m r c in
          let v = cell_number m r' c' in
          (λ a. joined_next m r c r' c' x y (subst (λ i. Arc i u v) (sym g) a), λ n. subst (λ i. Arc i u v) g (next_joined m r c r' c' x y n)),
    )
  where
    accepted_same : {i k : Job} → accepted i ≡ accepted k → i ≡ k
    accepted_same h = cc
