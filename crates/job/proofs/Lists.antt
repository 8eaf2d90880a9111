-- What stands in a job that the code's lists are, entry by entry: how many there are, its calls, carts and tracks, and its last step. Assumes nothing.
use Prim.Native.Nat.{ℕ, zero, suc, ◌+◌, ◌≤◌, ◌<◌, max}
use mathlib.Core.Path.{◌≡◌, refl, ap, ◌∙◌}
use mathlib.Core.List.{List, [], ◌∷◌, ◌++◌}
use mathlib.Core.Bool.{true}
use mathlib.Core.Logic.{◌↔◌}
use native.Mathlib.Omega.{arith}
use native.Mathlib.Numerals.{add-one}
use lib.ListN.{length, get_or, take}
use borrow.Author.Tests.{ltb-true}
use Rattle.std.specs.Prelude.{map}
use Rattle.std.proofs.Math.ListN.{get_or-map}
use Rattle.std.proofs.Math.Seq.{take-suc}
use Rattle.std.proofs.lemmas.List.{length-map, map-append}
use Rattle.model.specs.Limits.{max_tracks, max_carts, max_calls}
use Rattle.model.specs.Lists.{In}
use Rattle.model.specs.Job as model
use Rattle.model.specs.Job.{lift, track, call, track_of, call_of, latest, horizon}
use Rattle.model.specs.ReadJob.{track_line, cart_line, call_line, has_room}
use Rattle.model.proofs.Lists.{in_get_or, in_place}
use Rattle.job.specs.declared.state.Track.{Track}
use Rattle.job.specs.declared.state.CallKind.TheVariants.{Lift}
use Rattle.job.specs.declared.state.Call.{Call}
use Rattle.job.specs.declared.state.Job.{Job}
use Rattle.job.specs.Lists.{as_track, as_call, job_of, froms_of, tos_of, kinds_of, cells_of, deadlines_of}

-- what stands behind the end of a list
abbrev pub no_track : Track
no_track = record { from = 0; to = 0 }

abbrev pub no_call : Call
no_call = record { kind = Lift; cell = 0; deadline = 0 }

-- one more of a list, taken in
pub map_more : {A B : Type 0} (f : A → B) (l : List A) (k : ℕ) (d : A) → k < length l → map f (take (k + 1) l) ≡ map f (take k l) ++ (f (get_or l k d) ∷ [])
map_more f l k d h = rw add-one (ap (map f) (take-suc l k d h)) ∙ map-append f (take k l) (get_or l k d ∷ [])

-- the members of a list that a function gives, by their places
pub in_mapped : {A B : Type 0} (f : A → B) (l : List A) (d : A) (b : B) → In b (map f l) ↔ ((k : ℕ) × (k < length l) × (b ≡ f (get_or l k d)))
in_mapped f l d b = (there, back)
  where
    there : In b (map f l) → (k : ℕ) × (k < length l) × (b ≡ f (get_or l k d))
    there m = let (k, h, e) = in_place b (map f l) (f d) m in (k, rw (length-map l f) at h, e ∙ get_or-map f l k d)

    back : (k : ℕ) × (k < length l) × (b ≡ f (get_or l k d)) → In b (map f l)
    back (k, h, e) = rw (e, ← get_or-map f l k d) (in_get_or (map f l) k (f d) (rw (length-map l f) h))

-- the largest of the first deadlines
latest_last : (l : List model.Call) (q : model.Call) → latest (l ++ (q ∷ [])) ≡ max (latest l) q.deadline
latest_last [] q = omega arith
latest_last (a ∷ l) q = rw (latest_last l q) (omega arith)

pub latest_has : (l : List model.Call) (k : ℕ) (d : model.Call) → k < length l → (get_or l k d).deadline ≤ latest l
latest_has [] k d h = absurd (omega arith)
latest_has (q ∷ l) zero d h = omega arith
latest_has (q ∷ l) (suc k) d h = omega (arith, latest_has l k d (omega arith))

-- each of the first calls is at most that far
pub latest_le : (qs : List Call) (n k : ℕ) → k < n → (get_or qs k no_call).deadline ≤ latest (map as_call (take n qs))
latest_le [] n k h = omega arith
latest_le (q ∷ qs) zero k h = absurd (omega arith)
latest_le (q ∷ qs) (suc n) zero h = omega arith
latest_le (q ∷ qs) (suc n) (suc k) h = omega (arith, latest_le qs n k (omega arith))

pub latest_more : (qs : List Call) (k : ℕ) → k < length qs → latest (map as_call (take (k + 1) qs)) ≡ max (latest (map as_call (take k qs))) (get_or qs k no_call).deadline
latest_more qs k h = ap latest (map_more as_call qs k no_call h) ∙ latest_last (map as_call (take k qs)) (as_call (get_or qs k no_call))

module _ (s : Job) where
  pub tracks_count : length (job_of s).tracks ≡ length s.tracks.items
  tracks_count = length-map s.tracks.items as_track

  pub calls_count : length (job_of s).calls ≡ length s.calls.items
  calls_count = length-map s.calls.items as_call

  pub tracks_room : has_room (job_of s) track_line ≡ true → length s.tracks.items < max_tracks
  tracks_room e = rw tracks_count at (ltb-true (length (job_of s).tracks) max_tracks e)

  pub carts_room : has_room (job_of s) cart_line ≡ true → length s.carts.items < max_carts
  carts_room e = ltb-true (length s.carts.items) max_carts e

  pub calls_room : (k : model.CallKind) → has_room (job_of s) (call_line k) ≡ true → length s.calls.items < max_calls
  calls_room k e = rw calls_count at (ltb-true (length (job_of s).calls) max_calls e)

  pub track-at : (k : ℕ) → track_of (job_of s) k ≡ track (get_or (froms_of s.tracks.items) k 0) (get_or (tos_of s.tracks.items) k 0)
  track-at k = get_or-map as_track s.tracks.items k no_track ∙ rw (get_or-map (λ (t : Track). t.from) s.tracks.items k no_track, get_or-map (λ (t : Track). t.to) s.tracks.items k no_track) refl

  pub call-at : (k : ℕ) → call_of (job_of s) k ≡ call (get_or (kinds_of s.calls.items) k lift) (get_or (cells_of s.calls.items) k 0) (get_or (deadlines_of s.calls.items) k 0)
  call-at k =
      let qs = s.calls.items in
      let kinds = get_or-map (λ (q : Call). (as_call q).kind) qs k no_call in
      let cells = get_or-map (λ (q : Call). q.cell) qs k no_call in
      get_or-map as_call qs k no_call ∙ rw (kinds, cells, get_or-map (λ (q : Call). q.deadline) qs k no_call) refl

  pub deadline_at : (k : ℕ) → (call_of (job_of s) k).deadline ≡ get_or (deadlines_of s.calls.items) k 0
  deadline_at k = ap (λ (q : model.Call). q.deadline) (call-at k)

  pub in_tracks : (t : model.Track) → In t (job_of s).tracks ↔ ((k : ℕ) × (k < length s.tracks.items) × (t ≡ as_track (get_or s.tracks.items k no_track)))
  in_tracks = in_mapped as_track s.tracks.items no_track

  pub in_calls : (q : model.Call) → In q (job_of s).calls ↔ ((k : ℕ) × (k < length s.calls.items) × (q ≡ as_call (get_or s.calls.items k no_call)))
  in_calls = in_mapped as_call s.calls.items no_call

  pub deadline_by : (k : ℕ) → k < length s.calls.items → get_or (deadlines_of s.calls.items) k 0 ≤ horizon (job_of s)
  deadline_by k h = rw (deadline_at k) at (latest_has (job_of s).calls k (call lift 0 0) (rw calls_count h))
