-- A job that is read is fit: each line's tests keep it so. Assumes nothing.
use Prim.Native.Nat.{ℕ, ◌+◌, ◌<◌, ◌≤◌}
use mathlib.Core.Path.{◌≡◌, refl, sym, ap, subst, ◌∙◌}
use mathlib.Core.List.{List, [], ◌∷◌, ◌++◌, map, map-append}
use mathlib.Core.Option.{Option, none, some}
use mathlib.Core.Bool.{Bool, true, false, cond, ◌&&◌, ◌||◌}
use mathlib.Core.Logic.{◌⊎◌, inl, inr, ⊎_elim}
use native.Mathlib.Omega.{arith}
use lib.Dec.{eqb, ltb, leb}
use lib.ListN.{length, get_or, length-append, get_or-append}
use lib.Seq.{get_or-append_seam}
use borrow.Author.Tests.{ltb-true, ltb-false, leb-true, eqb-true, eqb-false, not-true}
use Rattle.model.specs.declared.answer.Answer.{Answer}
use Rattle.model.specs.declared.answer.Answer.TheVariants.{TextTooLong, BadLine, Uneven}
use Rattle.model.specs.Limits.{max_cells, max_tracks, max_carts, max_calls, max_steps, max_text}
use Rattle.model.specs.Lists.{In, NoDup}
use Rattle.model.specs.Job.{Job, Track, lift, bay, track, call}
use Rattle.model.specs.Ready.{SameEnds, Fit, Ready}
use Rattle.model.specs.Text.{Lines, done, cut, more, lines_of, numbers_by, scaled_of, opens, after, floor_word, track_word, cart_word, call_word, bay_word}
use Rattle.model.specs.ReadJob.{refused, accepted, Kind, floor_line, track_line, cart_line, call_line, no_job, member, leads, in_range, has_room}
use Rattle.model.specs.ReadJob.{is_new, add, may_follow, field_count, Said, wrong, right, numbers_say, fields_say, line_says, go_on, lines_say, read_job}
use Rattle.model.proofs.Basics.{nope, and_left, and_right}
use Rattle.model.proofs.Lists.{in_get_or}

-- The longest word of a kind of line.
abbrev pub word_most : Kind → ℕ
word_most floor_line = 5
word_most track_line = 5
word_most cart_line = 4
word_most (call_line k) = 4

-- A line that is right passed its tests: a word opens it, as many fields as due follow, each is a number, and these pass too.
pub record RightLine (number : List ℕ → Option ℕ) (j : Job) (l : List ℕ) (j' : Job) : Type 0 where
  pub kind : Kind
  pub word : List ℕ
  pub a : ℕ
  pub b : ℕ
  pub opened : opens word l ≡ true
  pub known : length word ≤ word_most kind
  pub count : length (after word l) ≡ field_count kind
  pub numbers : List ℕ
  pub given : numbers_by number (after word l) ≡ some numbers
  pub follows : may_follow j kind ≡ true
  pub ranged : in_range j kind a b ≡ true
  pub room : has_room j kind ≡ true
  pub new : is_new j kind a b ≡ true
  pub so : add j kind a b ≡ j'

cond_right : (t : Bool) (x : Said) (a : Answer) (j : Job) → cond t x (wrong a) ≡ right j → (t ≡ true) × (x ≡ right j)
cond_right true x a j e = (refl, e)
cond_right false x a j e = nope (cc)

right_same : (j k : Job) → right j ≡ right k → j ≡ k
right_same j k e = cc

module _ (number : List ℕ → Option ℕ) (j j' : Job) (l : List ℕ) where
  fields_added : (k : Kind) (word : List ℕ) → opens word l ≡ true → length word ≤ word_most k → fields_say number j k (after word l) ≡ right j' → RightLine number j l j'
  fields_added k word o w e =
      let fs = after word l in
      let (t, f) = cond_right (may_follow j k && eqb (length fs) (field_count k)) (numbers_say j k (numbers_by number fs)) _ j' e in
      go (numbers_by number fs) refl (and_left (may_follow j k) (eqb (length fs) (field_count k)) t) (eqb-true _ _ (and_right (may_follow j k) (eqb (length fs) (field_count k)) t)) f
    where
      go : (x : Option (List ℕ)) → numbers_by number (after word l) ≡ x → may_follow j k ≡ true → length (after word l) ≡ field_count k → numbers_say j k x ≡ right j' → RightLine number j l j'
      go none q m c e = nope (cc)
      go (some ns) q m c e =
          let a = get_or ns 0 0 in
          let b = get_or ns 1 0 in
          let (h₁, e₁) = cond_right (in_range j k a b) _ _ j' e in
          let (h₂, e₂) = cond_right (has_room j k) _ _ j' e₁ in
          let (h₃, e₃) = cond_right (is_new j k a b) _ _ j' e₂ in
          record {
            kind = k;
            word = word;
            a = a;
            b = b;
            opened = o;
            known = w;
            count = c;
            numbers = ns;
            given = q;
            follows = m;
            ranged = h₁;
            room = h₂;
            new = h₃;
            so = right_same (add j k a b) j' e₃;
          }

  pub line_added : line_says number j l ≡ right j' → RightLine number j l j'
  line_added e = go (opens floor_word l) refl (opens track_word l) refl (opens cart_word l) refl (opens call_word l) refl (opens bay_word l) refl e
    where
      say : Kind → List ℕ → Said
      say k word = fields_say number j k (after word l)

      go : (t : Bool) → opens floor_word l ≡ t → (u : Bool) → opens track_word l ≡ u → (v : Bool) → opens cart_word l ≡ v → (w : Bool) → opens call_word l ≡ w
          → (x : Bool) → opens bay_word l ≡ x → cond t (say floor_line floor_word) (cond u (say track_line track_word) (cond v (say cart_line cart_word)
          (cond w (say (call_line lift) call_word) (cond x (say (call_line bay) bay_word) (wrong BadLine))))) ≡ right j' → RightLine number j l j'
      go true o u _ v _ w _ x _ e = fields_added floor_line floor_word o (omega arith) e
      go false _ true o v _ w _ x _ e = fields_added track_line track_word o (omega arith) e
      go false _ false _ true o w _ x _ e = fields_added cart_line cart_word o (omega arith) e
      go false _ false _ false _ true o x _ e = fields_added (call_line lift) call_word o (omega arith) e
      go false _ false _ false _ false _ true o e = fields_added (call_line bay) bay_word o (omega arith) e
      go false _ false _ false _ false _ false _ e = nope (cc)

-- A member more, at the end.
in_snoc : {A : Type 0} (a x : A) (l : List A) → In a (l ++ (x ∷ [])) → In a l ⊎ (a ≡ x)
in_snoc a x [] (inl e) = inr e
in_snoc a x [] (inr h) = absurd h
in_snoc a x (b ∷ l) (inl e) = inl (inl e)
in_snoc a x (b ∷ l) (inr h) = ⊎_elim (λ k. inl (inr k)) inr (in_snoc a x l h)

-- If all members are so and the last is, all are.
all_snoc : {A : Type 0} {P : A → Type 0} (l : List A) (x : A) → ((a : A) → In a l → P a) → P x → (a : A) → In a (l ++ (x ∷ [])) → P a
all_snoc {A} {P} l x h p a m = ⊎_elim (h a) (λ e. subst P (sym e) p) (in_snoc a x l m)

member_in : (a : ℕ) (l : List ℕ) → member a l ≡ false → In a l → ⊥
member_in a [] e h = h
member_in a (b ∷ l) e h = go (eqb a b) refl e h (λ f k. member_in a l f k)
  where
    go : (t : Bool) → eqb a b ≡ t → (t || member a l) ≡ false → (a ≡ b) ⊎ In a l → (member a l ≡ false → In a l → ⊥) → ⊥
    go true q e h ih = nope (cc)
    go false q e (inl f) ih = eqb-false a b q f
    go false q e (inr k) ih = ih e k

nodup_snoc : (l : List ℕ) (x : ℕ) → NoDup l → (In x l → ⊥) → NoDup (l ++ (x ∷ []))
nodup_snoc [] x nd h = ((λ k. k), tt)
nodup_snoc (a ∷ l) x nd h = ((λ m. ⊎_elim nd.0 (λ e. h (inl (sym e))) (in_snoc a x l m)), nodup_snoc l x nd.1 (λ k. h (inr k)))

-- A new track joins no cells that an earlier one joins.
leads_in : (a b : ℕ) (ts : List Track) → leads a b ts ≡ false → (t : Track) → In t ts → (t.from ≡ a) × (t.to ≡ b) → ⊥
leads_in a b [] e t h p = h
leads_in a b (s ∷ ts) e t h p = go (eqb a s.from) refl (eqb b s.to) refl e h (λ f k. leads_in a b ts f t k p)
  where
    go : (x : Bool) → eqb a s.from ≡ x → (y : Bool) → eqb b s.to ≡ y → ((x && y) || leads a b ts) ≡ false → (t ≡ s) ⊎ In t ts
        → (leads a b ts ≡ false → In t ts → ⊥) → ⊥
    go true q true r e h ih = nope (cc)
    go true q false r e (inl f) ih = eqb-false b s.to r (sym p.1 ∙ ap (λ t. t.to) f)
    go true q false r e (inr k) ih = ih e k
    go false q y r e (inl f) ih = eqb-false a s.from q (sym p.0 ∙ ap (λ t. t.from) f)
    go false q y r e (inr k) ih = ih e k

or_left : (x y : Bool) → (x || y) ≡ false → x ≡ false
or_left true y e = e
or_left false y e = refl

or_right : (x y : Bool) → (x || y) ≡ false → y ≡ false
or_right true y e = nope (cc)
or_right false y e = e

own_snoc : (ts : List Track) (a b : ℕ) → leads a b ts ≡ false → leads b a ts ≡ false
    → ((i k : ℕ) → i < k → k < length ts → SameEnds (get_or ts i (track 0 0)) (get_or ts k (track 0 0)) → ⊥)
    → (i k : ℕ) → i < k → k < length (ts ++ (track a b ∷ [])) → SameEnds (get_or (ts ++ (track a b ∷ [])) i (track 0 0)) (get_or (ts ++ (track a b ∷ [])) k (track 0 0)) → ⊥
own_snoc ts a b e f own i k l m s = go (ltb k (length ts)) refl
  where
    old : get_or (ts ++ (track a b ∷ [])) i (track 0 0) ≡ get_or ts i (track 0 0)
    old = get_or-append ts (track a b ∷ []) (track 0 0) i (omega (arith, length-append ts (track a b ∷ [])))

    new : SameEnds (get_or ts i (track 0 0)) (track a b) → ⊥
    new (inl p) = leads_in a b ts e (get_or ts i (track 0 0)) (in_get_or ts i (track 0 0) (omega (arith, length-append ts (track a b ∷ [])))) p
    new (inr p) = leads_in b a ts f (get_or ts i (track 0 0)) (in_get_or ts i (track 0 0) (omega (arith, length-append ts (track a b ∷ [])))) p

    go : (t : Bool) → ltb k (length ts) ≡ t → ⊥
    go true q = own i k l (ltb-true k (length ts) q) (rw (old, get_or-append ts (track a b ∷ []) (track 0 0) k (ltb-true k (length ts) q)) at s)
    go false q =
        let z : k ≡ length ts = omega (arith, ltb-false k (length ts) q, length-append ts (track a b ∷ [])) in
        new (rw (old, z, get_or-append_seam ts (track a b) [] (track 0 0)) at s)

pub no_fit : Fit no_job
no_fit = record {
  few_cells = omega arith;
  few_tracks = omega arith;
  few_carts = omega arith;
  few_calls = omega arith;
  known_tracks = λ t h. absurd h;
  known_carts = λ c h. absurd h;
  known_calls = λ q h. absurd h;
  no_loop = λ t h. absurd h;
  own_tracks = λ i k l m. absurd (omega arith);
  own_cells = tt;
  own_targets = tt;
}

module _ (j : Job) (f : Fit j) (a b : ℕ) where
  -- before the FLOOR line there is no cell, so nothing stands on one
  no_cell : {A : Type 0} → eqb j.cells 0 ≡ true → (n : ℕ) → n < j.cells → A
  no_cell e n h = absurd (omega (arith, eqb-true j.cells 0 e))

  add_fit : (k : Kind) → may_follow j k ≡ true → in_range j k a b ≡ true → has_room j k ≡ true → is_new j k a b ≡ true → Fit (add j k a b)
  add_fit floor_line m r h n = record {
    few_cells = leb-true a max_cells (and_right (ltb 0 a) (leb a max_cells) r);
    few_tracks = f.few_tracks;
    few_carts = f.few_carts;
    few_calls = f.few_calls;
    known_tracks = λ t i. no_cell m t.from (f.known_tracks t i).0;
    known_carts = λ c i. no_cell m c (f.known_carts c i);
    known_calls = λ q i. no_cell m q.cell (f.known_calls q i).0;
    no_loop = f.no_loop;
    own_tracks = f.own_tracks;
    own_cells = f.own_cells;
    own_targets = f.own_targets;
  }
  add_fit track_line m r h n = record {
    few_cells = f.few_cells;
    few_carts = f.few_carts;
    few_calls = f.few_calls;
    few_tracks = omega (arith, length-append j.tracks (track a b ∷ []), ltb-true (length j.tracks) max_tracks h);
    known_tracks = all_snoc j.tracks (track a b) f.known_tracks
        (ltb-true a j.cells (and_left (ltb a j.cells) (ltb b j.cells) r), ltb-true b j.cells (and_right (ltb a j.cells) (ltb b j.cells) r));
    known_carts = f.known_carts;
    known_calls = f.known_calls;
    no_loop = all_snoc j.tracks (track a b) f.no_loop (eqb-false a b (or_left (eqb a b) (leads a b j.tracks) fresh));
    own_tracks = own_snoc j.tracks a b (or_right (eqb a b) (leads a b j.tracks) fresh) (or_right (eqb a b || leads a b j.tracks) (leads b a j.tracks) unseen) f.own_tracks;
    own_cells = f.own_cells;
    own_targets = f.own_targets;
  }
    where
      unseen : (eqb a b || leads a b j.tracks || leads b a j.tracks) ≡ false
      unseen = not-true (eqb a b || leads a b j.tracks || leads b a j.tracks) n

      fresh : (eqb a b || leads a b j.tracks) ≡ false
      fresh = or_left (eqb a b || leads a b j.tracks) (leads b a j.tracks) unseen
  add_fit cart_line m r h n = record {
    few_cells = f.few_cells;
    few_tracks = f.few_tracks;
    few_calls = f.few_calls;
    few_carts = omega (arith, length-append j.carts (a ∷ []), ltb-true (length j.carts) max_carts h);
    known_tracks = f.known_tracks;
    no_loop = f.no_loop;
    own_tracks = f.own_tracks;
    known_carts = all_snoc j.carts a f.known_carts (ltb-true a j.cells r);
    known_calls = f.known_calls;
    own_targets = f.own_targets;
    own_cells = nodup_snoc j.carts a f.own_cells (member_in a j.carts (not-true (member a j.carts) n));
  }
  add_fit (call_line k) m r h n = record {
    few_cells = f.few_cells;
    few_tracks = f.few_tracks;
    few_carts = f.few_carts;
    few_calls = omega (arith, length-append j.calls (call k a b ∷ []), ltb-true (length j.calls) max_calls h);
    known_tracks = f.known_tracks;
    no_loop = f.no_loop;
    own_tracks = f.own_tracks;
    known_carts = f.known_carts;
    own_cells = f.own_cells;
    known_calls = all_snoc j.calls (call k a b) f.known_calls
        (ltb-true a j.cells (and_left (ltb a j.cells) (ltb b max_steps) r), ltb-true b max_steps (and_right (ltb a j.cells) (ltb b max_steps) r));
    own_targets = rw map-append (nodup_snoc (map (λ q. q.cell) j.calls) a f.own_targets (member_in a (map (λ q. q.cell) j.calls) (not-true (member a (map (λ q. q.cell) j.calls)) n)));
  }

pub line_fit : {number : List ℕ → Option ℕ} {j j' : Job} {l : List ℕ} → Fit j → RightLine number j l j' → Fit j'
line_fit {number} {j} f h = subst Fit h.so (add_fit j f h.a h.b h.kind h.follows h.ranged h.room h.new)

pub lines_ready : (j j' : Job) (n : ℕ) (ls : Lines) → Fit j → lines_say scaled_of j n ls ≡ accepted j' → Ready j'
lines_ready j j' n done f e = go (eqb j.cells 0) refl (leb (length j.calls) (length j.carts)) refl e
  where
    same : accepted j ≡ accepted j' → j ≡ j'
    same e = cc

    go : (t : Bool) → eqb j.cells 0 ≡ t → (u : Bool) → leb (length j.calls) (length j.carts) ≡ u
        → cond t (refused BadLine n) (cond u (accepted j) (refused Uneven 0)) ≡ accepted j' → Ready j'
    go true p u q e = nope (cc)
    go false p true q e = subst Ready (same e) (record { fit = f; has_cells = let n = eqb-false j.cells 0 p in omega arith; enough = leb-true (length j.calls) (length j.carts) q })
    go false p false q e = nope (cc)
lines_ready j j' n cut f e = nope (cc)
lines_ready j j' n (more l ls) f e = go (line_says scaled_of j l) refl e (λ k. lines_ready k j' (n + 1) ls)
  where
    go : (s : Said) → line_says scaled_of j l ≡ s → go_on s n (λ k. lines_say scaled_of k (n + 1) ls) ≡ accepted j'
        → ((k : Job) → Fit k → lines_say scaled_of k (n + 1) ls ≡ accepted j' → Ready j') → Ready j'
    go (wrong k) q e ih = nope (cc)
    go (right k) q e ih = ih k (line_fit f (line_added scaled_of j k l q)) e

pub read_ready : (s : List ℕ) (j : Job) → read_job s ≡ accepted j → Ready j
unfolding read_job
read_ready s j e = go (ltb max_text (length s)) e
  where
    go : (t : Bool) → cond t (refused TextTooLong 0) (lines_say scaled_of no_job 1 (lines_of s)) ≡ accepted j → Ready j
    go true e = nope (cc)
    go false e = lines_ready no_job j 1 (lines_of s) no_fit e
