-- What a failed search leaves, and the choke points that it shows.
use Rattle.std.specs.Prelude.{ℕ, ◌<◌, ◌≡◌, Bool, true, false, ◌⊎◌, length}
use Rattle.model.specs.Job.{Job, CallKind, lift, bay, call_of}
use Rattle.model.specs.Choke.{Point, point, Choke, cell_step, whole_call, Known}
use Rattle.flow.specs.Flow.{Link, off, to, arr, dep, Residual}
use Rattle.network.specs.Graph.{graph, is_target, Inside, node_of}

-- M are the marks of a search that failed from the call's node x: all that it can reach is marked, and no free cart is.
pub record Stuck (j : Job) (back on : Point → Link Point) (M : Point → Bool) (x : Point) : Type 0 where
  pub target : is_target j x ≡ true
  pub unserved : back x ≡ off
  pub reached : M x ≡ true
  pub known : (v : Point) → M v ≡ true → Inside j v
  pub done : (v w y : Point) → M v ≡ true → Residual (graph j) back on (dep v) (arr w) → Residual (graph j) back on (arr w) (dep y) → M y ≡ true
  pub no_goal : (v : Point) → M v ≡ true → (graph j).Goal v → ⊥

-- An unmarked node that is a call's, or whose successor is marked.
abbrev pub ChokeHere : Job → (Point → Link Point) → (Point → Bool) → Point → Type 0
ChokeHere j on M v = (M v ≡ false) × ((is_target j v ≡ true) ⊎ ((w : Point) × (on v ≡ to w) × (M w ≡ true)))

-- what the node of the k-th call is as a choke point: the whole call, and for a bay its cell at its step, where only its own cart can be
abbrev pub call_choke : Job → CallKind → ℕ → Choke
call_choke j lift k = whole_call k
call_choke j bay k = cell_step (point (call_of j k).cell (call_of j k).deadline)

-- The node v is the choke point x: of a cell at a step, or of a call.
abbrev pub Names : Job → Point → Choke → Type 0
Names j v x = (Known j v × (x ≡ cell_step v)) ⊎ ((k : ℕ) × (k < length j.calls) × (v ≡ node_of j (call_of j k)) × (x ≡ call_choke j (call_of j k).kind k))
