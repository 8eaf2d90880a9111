-- What the bytes say of a node of the flow that the store holds: a node of the graph has its place, a used one that is no call leads on to a node of the graph, and a
-- store with the same flow holds it too. Assumes nothing.
use Prim.Native.Nat.{ℕ, ◌+◌, ◌-◌, ◌<◌}
use mathlib.Core.Path.{◌≡◌, refl, ap, fun_ext}
use mathlib.Core.List.{List}
use mathlib.Core.Bool.{Bool, true, false, not, cond, ◌&&◌}
use native.Mathlib.Omega.{arith}
use borrow.Author.Tests.{ne_eqb}
use lib.Dec.{eqb}
use lib.ListN.{length}
use Rattle.model.specs.Job.{Job}
use Rattle.model.specs.Choke.{Point, point}
use Rattle.flow.specs.Flow.{Link, off, end, to}
use Rattle.flow.proofs.Flow.{flow_same}
use Rattle.network.specs.Graph.{top, Inside}
use Rattle.network.specs.Store.{grid_of, idx, place_at, used_at, next_at, prev_at, meets, leads_to, inside, is_used, Within}
use Rattle.network.specs.Links.{FlowIn, back_link, on_link}
use Rattle.network.specs.Holds.{Holds, SameFlow}
use Rattle.network.specs.declared.planes.Grid.{Grid}
use Rattle.network.proofs.StoreBytes.{idx_below}
use Rattle.network.proofs.NodeBytes.{used, link_to, link_used, used_known, test_inside}

-- A link leads to a used node, from where one leads back.
on_used : (j : Job) (s : List ℕ) (x y : Point) → FlowIn j s → on_link j s x ≡ to y → is_used j s y ≡ true
on_used j s x y ok e = link_used (is_used j s y) _ x (ok.back y x e)

module _ {j : Job} {g : Grid} {s : List ℕ} (h : Holds j g s) {x : Point} (k : Inside j x) where
  pub place_below : place_at g x < g.nodes
  place_below = rw h.grid (idx_below j k)

  pub within : Within g s (place_at g x)
  within = (h.room, place_below)

  -- Where a used node that is no call leads on to.
  pub leads_on : (x.step ≡ g.top → ⊥) → (used_at g s (place_at g x) ≡ 0 → ⊥) → (on_link j s x ≡ to (leads_to g s x)) × Inside j (leads_to g s x)
  leads_on low u =
      let u' : used_at (grid_of j) s (idx j x) ≡ 0 → ⊥ = rw h.grid at u in
      let low' : x.step ≡ top j → ⊥ = rw h.grid at low in
      let e : on_link j s x ≡ to (leads_to (grid_of j) s x) = link_to (is_used j s x) (eqb x.step (top j)) _ (used j s x k u') (ne_eqb x.step (top j) low') in
      rw h.grid (e, used_known j s (leads_to (grid_of j) s x) (on_used j s x (leads_to (grid_of j) s x) h.flow e))

-- The links are read off the planes of the flow.
module _ (j : Job) {s t : List ℕ} (same : SameFlow (grid_of j) s t) where
  links_same : (f : Point → ℕ → ℕ → Link Point) (b : List ℕ → Point → ℕ) → ((x : Point) → Inside j x → b t x ≡ b s x)
      → (x : Point) → cond (is_used j t x) (f x (used_at (grid_of j) t (idx j x)) (b t x)) off ≡ cond (is_used j s x) (f x (used_at (grid_of j) s (idx j x)) (b s x)) off
  links_same f b e x = go (inside j x) refl
    where
      go : (k : Bool) → inside j x ≡ k → cond (is_used j t x) (f x (used_at (grid_of j) t (idx j x)) (b t x)) off ≡ cond (is_used j s x) (f x (used_at (grid_of j) s (idx j x)) (b s x)) off
      go true k =
          let h = test_inside j x k in
          λ i. cond (inside j x && not (eqb (same.used (idx j x) (idx_below j h) i) 0)) (f x (same.used (idx j x) (idx_below j h) i) (e x h i)) off
      go false k = rw k refl

  pub back_same : back_link j t ≡ back_link j s
  back_same = fun_ext (links_same (λ x u c. cond (eqb x.step 0) end (to (cond (eqb x.step (top j)) (point x.cell c) (point c (x.step - 1)))))
      (λ s x. prev_at (grid_of j) s (idx j x)) (λ x k. same.prev (idx j x) (idx_below j k)))

  pub on_same : on_link j t ≡ on_link j s
  on_same = fun_ext (links_same (λ x u c. cond (eqb x.step (top j)) end (to (cond (eqb u meets) (point x.cell (top j)) (point c (x.step + 1)))))
      (λ s x. next_at (grid_of j) s (idx j x)) (λ x k. same.next (idx j x) (idx_below j k)))

-- A store of the same length that holds a flow.
pub holds_flow : {j : Job} {g : Grid} {s t : List ℕ} → Holds j g s → length t ≡ length s → FlowIn j t → Holds j g t
holds_flow h e f = record { ready = h.ready; grid = h.grid; room = omega (arith, h.room); flow = f }

pub holds_same : {j : Job} {g : Grid} {s t : List ℕ} → Holds j g s → SameFlow (grid_of j) s t → Holds j g t
holds_same {j} h e =
    holds_flow h e.long (flow_same (λ v. ap (λ (l : Point → Link Point). l v) (back_same j e)) (λ v. ap (λ (l : Point → Link Point). l v) (on_same j e)) h.flow)
