-- The contracts of the planner, of the check and of the map reader: the answer r, and every byte of the lent buffers afterwards. A primed name is a buffer after the call.
use Rattle.std.specs.Prelude.{ℕ, ◌+◌, ◌*◌, ◌≡◌, List, [], ◌++◌, ◌⊎◌, cond, ltb, length, drop, replicate}
use Rattle.model.specs.declared.answer.Answer.TheVariants as answer
use Rattle.model.specs.Answers.{number}
use Rattle.model.specs.Job.{Job, store_least, sheet_least}
use Rattle.model.specs.Plan.{Path, Ride, Plan, PlanInOrder, SparesInOrder}
use Rattle.model.specs.Choke.{Choke, TrueChokes, ChokesInOrder}
use Rattle.model.specs.SheetText.{plan_text, cannot_text}
use Rattle.model.specs.ReadJob.{Verdict, refused, accepted, read_job}
use Rattle.model.specs.GridMap.{map_verdict}
use Rattle.model.specs.ReadSheet.{Sheet, bad, plan, cannot, read_sheet}

-- 9 and 10: a buffer too short
abbrev pub with_store : ℕ → Verdict Job → Verdict Job
with_store n (refused a l) = refused a l
with_store n (accepted j) = cond (ltb n (store_least j)) (refused answer.StoreTooShort 0) (accepted j)

abbrev pub with_room : ℕ → Verdict Job → Verdict Job
with_room n (refused a l) = refused a l
with_room n (accepted j) = cond (ltb n (sheet_least j)) (refused answer.SheetTooShort 0) (accepted j)

abbrev pub RightPlan : Job → List Path → List Ride → Type 0
RightPlan j ps ss = Plan j ps ss × (PlanInOrder j ps × SparesInOrder ss)

abbrev pub RightChokes : Job → List Choke → Type 0
RightChokes j xs = TrueChokes j xs × ChokesInOrder xs

-- The sheet b that the planner writes, with its answer.
abbrev pub Answers : Job → ℕ → List ℕ → Type 0
Answers j r b =
    ((ps : List Path) × (ss : List Ride) × RightPlan j ps ss × (b ≡ plan_text ps ss) × (r ≡ number answer.Plan + 256 * length b))
    ⊎ ((xs : List Choke) × RightChokes j xs × (b ≡ cannot_text xs) × (r ≡ number answer.Cannot + 256 * length b) × ((ps : List Path) (ss : List Ride) → Plan j ps ss → ⊥))

-- The planner's answer r and the bytes b that it writes; none at a refusal.
abbrev pub Told : Verdict Job → ℕ → List ℕ → Type 0
Told (refused a l) r b = (r ≡ number a + 256 * l) × (b ≡ [])
Told (accepted j) r b = Answers j r b

-- The check's answer.
abbrev pub Judged : Job → Sheet → ℕ → Type 0
Judged j (bad l) r = r ≡ number answer.BadSheet + 256 * l
Judged j (plan ps ss) r = (RightPlan j ps ss × (r ≡ number answer.Plan)) ⊎ ((RightPlan j ps ss → ⊥) × (r ≡ number answer.WrongSheet))
Judged j (cannot xs) r = (RightChokes j xs × (r ≡ number answer.Cannot)) ⊎ ((RightChokes j xs → ⊥) × (r ≡ number answer.WrongSheet))

abbrev pub Decided : Verdict Job → List ℕ → ℕ → Type 0
Decided (refused a l) sheet r = r ≡ number a + 256 * l
Decided (accepted j) sheet r = Judged j (read_sheet j sheet) r

-- by the lengths of store and sheet buffer
abbrev pub plan_verdict : List ℕ → ℕ → ℕ → Verdict Job
plan_verdict job store room = with_room room (with_store store (read_job job))

abbrev pub check_verdict : List ℕ → ℕ → Verdict Job
check_verdict job store = with_store store (read_job job)

abbrev pub zeros : List ℕ → List ℕ
zeros s = replicate (length s) 0

-- A refusal changes no lent byte; otherwise the store is wiped.
abbrev pub store_after : Verdict Job → List ℕ → List ℕ
store_after (refused a l) store = store
store_after (accepted j) store = zeros store

-- The planner: the bytes written, and behind them what stood there.
pub record Planned (job store sheet store' sheet' : List ℕ) (r : ℕ) : Type 0 where
  pub bytes : List ℕ
  pub told : Told (plan_verdict job (length store) (length sheet)) r bytes
  pub sheet_after : sheet' ≡ bytes ++ drop (length bytes) sheet
  pub store-after : store' ≡ store_after (plan_verdict job (length store) (length sheet)) store

-- The check: a store is wiped after 0 and 1 alone.
pub record Checked (job store sheet store' : List ℕ) (r : ℕ) : Type 0 where
  pub told : Decided (check_verdict job (length store)) sheet r
  pub store-after : store' ≡ cond (ltb r 2) (zeros store) store

-- The answer to who asks for a text: 0 in its lowest byte where one is written; and the bytes of that text, none at a refusal.
abbrev pub text_answer : Verdict (List ℕ) → ℕ
text_answer (refused a l) = number a + 256 * l
text_answer (accepted b) = 256 * length b

abbrev pub text_bytes : Verdict (List ℕ) → List ℕ
text_bytes (refused a l) = []
text_bytes (accepted b) = b

-- The bytes written, and behind them what stood there.
pub record TextGiven (v : Verdict (List ℕ)) (text text' : List ℕ) (r : ℕ) : Type 0 where
  pub told : r ≡ text_answer v
  pub text_after : text' ≡ text_bytes v ++ drop (length (text_bytes v)) text

-- The map reader.
abbrev pub Mapped : List ℕ → List ℕ → List ℕ → ℕ → Type 0
Mapped map text text' r = TextGiven (map_verdict map (length text)) text text' r
