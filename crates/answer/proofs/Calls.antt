-- The calls of a job by those of the code's list: their cells, how many there are, the k-th, and its node, whose cell the code reads off the call and whose layer off the grid. Assumes
-- nothing.
use Prim.Native.Nat.{ℕ}
use mathlib.Core.Path.{◌≡◌, sym, ap, ◌∙◌}
use mathlib.Core.List.{List}
use lib.ListN.{length, get_or}
use Rattle.std.specs.Prelude.{map}
use Rattle.std.proofs.Math.ListN.{get_or-map}
use Rattle.std.proofs.lemmas.List.{length-map}
use Rattle.std.proofs.lemmas.Simd.{map-map}
use Rattle.model.specs.Job.{Job, lift, call, call_of}
use Rattle.model.specs.Choke.{point}
use Rattle.job.specs.declared.state.Call.{Call}
use Rattle.job.specs.Lists.{as_call, cells_of}
use Rattle.job.proofs.Lists.{no_call}
use Rattle.network.specs.declared.planes.Grid.{Grid}
use Rattle.network.specs.Graph.{node_of}
use Rattle.network.specs.Store.{grid_of}
use Rattle.network.proofs.Points.{point_eq}

module _ (j : Job) (calls : List Call) (listed : j.calls ≡ map as_call calls) where
  pub cells_listed : map (λ q. q.cell) j.calls ≡ cells_of calls
  cells_listed = ap (map (λ q. q.cell)) listed ∙ map-map (λ q. q.cell) as_call calls

  pub call_read : (k : ℕ) → call_of j k ≡ as_call (get_or calls k no_call)
  call_read k = ap (λ qs. get_or qs k (call lift 0 0)) listed ∙ get_or-map as_call calls k no_call

-- The cells alone say how many calls there are, and where.
module _ (j : Job) (calls : List Call) (listed : map (λ q. q.cell) j.calls ≡ cells_of calls) where
  pub counted : length j.calls ≡ length calls
  counted = sym (length-map j.calls (λ q. q.cell)) ∙ ap length listed ∙ length-map calls (λ q. q.cell)

  cell_read : (k : ℕ) → (call_of j k).cell ≡ (get_or calls k no_call).cell
  cell_read k =
      sym (get_or-map (λ q. q.cell) j.calls k (call lift 0 0)) ∙ ap (λ l. get_or l k 0) listed ∙ get_or-map (λ q. q.cell) calls k no_call

  -- The code has the call's cell in a local.
  pub node_read : {grid : Grid} → grid ≡ grid_of j → (k : ℕ) {c : ℕ} → c ≡ (get_or calls k no_call).cell → point c grid.top ≡ node_of j (call_of j k)
  node_read known k e = point_eq (e ∙ sym (cell_read k)) (ap (λ g. g.top) known)
