-- A decision that computes for each definition of a plan and of a choke list. Assumes nothing.
use Prim.Native.Nat.{ℕ, suc, ◌+◌, ◌-◌, ◌<◌}
use mathlib.Core.Path.{◌≡◌, refl, sym, ◌∙◌, ap}
use mathlib.Core.List.{List, [], ◌∷◌, ◌++◌, map}
use native.Mathlib.Omega.{arith}
use lib.ListN.{length, get_or}
use Rattle.model.specs.Lists.{In, NoDup, Rising}
use Rattle.model.specs.Job.{Job, Track, CallKind, lift, bay, Call, track, cart_cell, call_of, horizon}
use Rattle.model.specs.Walk.{At, Open, Step, Walk, InTime, Serves}
use Rattle.model.specs.Plan.{Path, Ride, ride_of, Leads, StaysOn, OnFloor, Share, Trade, NoShare, NoTrade, Apart, CallsServed, Plan, Sooner, Before}
use Rattle.model.specs.Choke.{Choke, cell_step, whole_call, KnownChoke, Stops, StandsOn, TrueChokes, Rises}
use Rattle.model.specs.Promises.{RightPlan, RightChokes}
use Rattle.model.proofs.Basics.{nope}
use Rattle.model.proofs.Lex.{dec_lex}
use Rattle.model.proofs.Decide.{dec_by, dec_and, dec_or, dec_imp, dec_not, dec_eq, dec_le, dec-lt, all-below, all_in, any_in, dec_in}
use Rattle.model.proofs.Listed.{walks_of, walk_listed}

-- Walks.
pub track_eq : {s t : Track} → (s.from ≡ t.from) × (s.to ≡ t.to) → s ≡ t
track_eq h = λ i. track (h.0 i) (h.1 i)

pub track_parts : {s t : Track} → s ≡ t → (s.from ≡ t.from) × (s.to ≡ t.to)
track_parts e = (ap (λ t. t.from) e, ap (λ t. t.to) e)

abbrev pub dec_track : (s t : Track) → Dec (s ≡ t)
dec_track s t = dec_by track_eq track_parts (dec_and (dec_eq s.from t.from) (dec_eq s.to t.to))

pub no_bay : lift ≡ bay → ⊥
no_bay e = nope (cc)

abbrev pub dec_bay : (k : CallKind) → Dec (k ≡ bay)
dec_bay lift = no no_bay
dec_bay bay = yes refl

pub no_lift : bay ≡ lift → ⊥
no_lift e = no_bay (sym e)

abbrev pub dec_lift : (k : CallKind) → Dec (k ≡ lift)
dec_lift lift = yes refl
dec_lift bay = no no_lift

abbrev pub dec_open : (j : Job) (t v : ℕ) → Dec (Open j t v)
dec_open j t v = all_in (λ q. dec_imp (dec_bay q.kind) (dec_imp (dec_eq q.cell v) (dec_le _ _))) j.calls

abbrev pub dec_step : (j : Job) (t u v : ℕ) → Dec (Step j t u v)
dec_step j t u v =
    dec_and (dec_or (dec_eq u v) (dec_or (dec_in dec_track (track u v) j.tracks) (dec_in dec_track (track v u) j.tracks))) (dec_open j (suc t) v)

abbrev pub dec_at : (w : List ℕ) (t v : ℕ) → Dec (At w t v)
dec_at w t v = dec_and (dec-lt t (length w)) (dec_eq (get_or w t 0) v)

pub walk_of : (j : Job) (c : ℕ) (w : List ℕ)
    → At w 0 c × ((t : ℕ) → t < length w → suc t < length w → Step j t (get_or w t 0) (get_or w (suc t) 0)) → Walk j c w
walk_of j c w h = record { starts = h.0; steps = λ t l. h.1 t (omega arith) l }

pub walk_parts : (j : Job) (c : ℕ) (w : List ℕ)
    → Walk j c w → At w 0 c × ((t : ℕ) → t < length w → suc t < length w → Step j t (get_or w t 0) (get_or w (suc t) 0))
walk_parts j c w h = (h.starts, λ t k l. h.steps t l)

abbrev pub dec_walk : (j : Job) (c : ℕ) (w : List ℕ) → Dec (Walk j c w)
dec_walk j c w = dec_by (walk_of j c w) (walk_parts j c w)
    (dec_and (dec_at w 0 c) (all-below (λ t. dec_imp (dec-lt (suc t) (length w)) (dec_step j t (get_or w t 0) (get_or w (suc t) 0))) (length w)))

abbrev pub dec_in_time : (k : CallKind) (d t : ℕ) → Dec (InTime k d t)
dec_in_time lift d t = dec_le t d
dec_in_time bay d t = dec_eq t d

-- the last step of a walk is told by its length
module _ (w : List ℕ) (q : Call) where
  abbrev pub ServesAt : ℕ → Type 0
  ServesAt t = (length w ≡ suc t) × (InTime q.kind q.deadline t × (get_or w t 0 ≡ q.cell))

  pub serves_of : ServesAt (length w - 1) → Serves w q
  serves_of h = record { last = length w - 1; size = h.0; in_time = h.1.0; ends = h.1.1 }

  pub serves_parts : Serves w q → ServesAt (length w - 1)
  serves_parts h = let e : h.last ≡ length w - 1 = omega (arith, h.size) in rw (← e) (h.size, (h.in_time, h.ends))

  abbrev pub dec_serves : Dec (Serves w q)
  dec_serves = let t = length w - 1 in
      dec_by serves_of serves_parts (dec_and (dec_eq (length w) (suc t)) (dec_and (dec_in_time q.kind q.deadline t) (dec_eq (get_or w t 0) q.cell)))

-- Paths.
abbrev pub LeadsParts : Job → Path → Type 0
LeadsParts j p = (p.cart < length j.carts) × ((p.call < length j.calls)
    × (Serves p.cells (call_of j p.call) × Walk j (cart_cell j p.cart) p.cells))

pub leads_of : (j : Job) (p : Path) → LeadsParts j p → Leads j p
leads_of j p h = record { known_cart = h.0; known_call = h.1.0; walks = h.1.1.1; serves = h.1.1.0 }

pub leads_parts : (j : Job) (p : Path) → Leads j p → LeadsParts j p
leads_parts j p h = (h.known_cart, (h.known_call, (h.serves, h.walks)))

abbrev pub dec_leads : (j : Job) (p : Path) → Dec (Leads j p)
dec_leads j p = dec_by (leads_of j p) (leads_parts j p)
    (dec_and (dec-lt p.cart (length j.carts)) (dec_and (dec-lt p.call (length j.calls))
    (dec_and (dec_serves p.cells (call_of j p.call)) (dec_walk j (cart_cell j p.cart) p.cells))))

-- Spare carts.
abbrev pub StaysParts : Job → Ride → Type 0
StaysParts j s = (s.cart < length j.carts) × ((length s.cells ≡ suc (horizon j)) × Walk j (cart_cell j s.cart) s.cells)

pub stays_of : (j : Job) (s : Ride) → StaysParts j s → StaysOn j s
stays_of j s h = record { known_cart = h.0; walks = h.1.1; size = h.1.0 }

pub stays_parts : (j : Job) (s : Ride) → StaysOn j s → StaysParts j s
stays_parts j s h = (h.known_cart, (h.size, h.walks))

abbrev pub dec_stays : (j : Job) (s : Ride) → Dec (StaysOn j s)
dec_stays j s = dec_by (stays_of j s) (stays_parts j s)
    (dec_and (dec-lt s.cart (length j.carts)) (dec_and (dec_eq (length s.cells) (suc (horizon j))) (dec_walk j (cart_cell j s.cart) s.cells)))

abbrev pub dec_nodup : (l : List ℕ) → Dec (NoDup l)
dec_nodup [] = yes tt
dec_nodup (a ∷ l) = dec_and (dec_not (dec_in dec_eq a l)) (dec_nodup l)

-- Conflicts: the cells that two walks share or trade are those that the first is on.
module _ (w x : List ℕ) (t : ℕ) where
  pub share_of : OnFloor w t (get_or w t 0) × OnFloor x t (get_or w t 0) → Share w x t
  share_of h = (get_or w t 0, h.0, h.1)

  pub share_parts : Share w x t → OnFloor w t (get_or w t 0) × OnFloor x t (get_or w t 0)
  share_parts (v, a, b) = ((a.0, refl), (b.0, b.1 ∙ sym a.1))

  abbrev pub dec_share : Dec (Share w x t)
  dec_share = dec_by share_of share_parts (dec_and (dec_at w t (get_or w t 0)) (dec_at x t (get_or w t 0)))

  abbrev pub TradeParts : Type 0
  TradeParts = (OnFloor w t (get_or w t 0) × OnFloor w (suc t) (get_or w (suc t) 0)) × (OnFloor x t (get_or w (suc t) 0) × OnFloor x (suc t) (get_or w t 0))

  pub trade_of : TradeParts → Trade w x t
  trade_of h = (get_or w t 0, get_or w (suc t) 0, h.0.0, h.0.1, h.1.0, h.1.1)

  pub trade_parts : Trade w x t → TradeParts
  trade_parts (u, v, a, b, c, d) = (((a.0, refl), (b.0, refl)), ((c.0, c.1 ∙ sym b.1), (d.0, d.1 ∙ sym a.1)))

  abbrev pub dec_trade : Dec (Trade w x t)
  dec_trade = dec_by trade_of trade_parts
      (dec_and (dec_and (dec_at w t (get_or w t 0)) (dec_at w (suc t) (get_or w (suc t) 0))) (dec_and (dec_at x t (get_or w (suc t) 0)) (dec_at x (suc t) (get_or w t 0))))

-- A conflict at any step has a fact for its consequence: only the steps of the first walk matter.
module _ {C : ℕ → Type 0} {Q : Type 0} (n : ℕ) (short : (t : ℕ) → C t → t < n) where
  pub steps_of : ((t : ℕ) → t < n → C t → Q) → (t : ℕ) → C t → Q
  steps_of h t k = h t (short t k) k

  pub steps_parts : ((t : ℕ) → C t → Q) → (t : ℕ) → t < n → C t → Q
  steps_parts h t l k = h t k

  abbrev pub dec_steps : ((t : ℕ) → Dec (C t)) → Dec Q → Dec ((t : ℕ) → C t → Q)
  dec_steps d e = dec_by steps_of steps_parts (all-below (λ t. dec_imp (d t) e) n)

pub share_short : (w x : List ℕ) (t : ℕ) → Share w x t → t < length w
share_short w x t (v, a, b) = omega (arith, a.0)

pub trade_short : (w x : List ℕ) (t : ℕ) → Trade w x t → t < length w
trade_short w x t (u, v, a, b, c, d) = omega (arith, a.0)

-- every two members
module _ {A : Type 0} {P : A → A → Type 0} (l : List A) where
  pub pairs_of : ((a : A) → In a l → (b : A) → In b l → P a b) → (a b : A) → In a l → In b l → P a b
  pairs_of h a b k m = h a k b m

  pub pairs_parts : ((a b : A) → In a l → In b l → P a b) → (a : A) → In a l → (b : A) → In b l → P a b
  pairs_parts h a k b m = h a b k m

  abbrev pub dec_pairs : ((a b : A) → Dec (P a b)) → Dec ((a b : A) → In a l → In b l → P a b)
  dec_pairs d = dec_by pairs_of pairs_parts (all_in (λ a. all_in (λ b. d a b) l) l)

abbrev pub dec_no_share : (rs : List Ride) → Dec (NoShare rs)
dec_no_share rs = dec_pairs rs (λ r s. dec_steps (length r.cells) (share_short r.cells s.cells) (dec_share r.cells s.cells) (dec_eq _ _))

abbrev pub dec_no_trade : (rs : List Ride) → Dec (NoTrade rs)
dec_no_trade rs = dec_pairs rs (λ r s. dec_steps (length r.cells) (trade_short r.cells s.cells) (dec_trade r.cells s.cells) (dec_eq _ _))

abbrev pub dec_rising : {A : Type 0} {R : A → A → Type 0} → ((a b : A) → Dec (R a b)) → (l : List A) → Dec (Rising R l)
dec_rising d [] = yes tt
dec_rising d (a ∷ []) = yes tt
dec_rising d (a ∷ b ∷ l) = dec_and (d a b) (dec_rising d (b ∷ l))

-- Plans.
module _ (rs : List Ride) where
  abbrev pub ApartParts : Type 0
  ApartParts = NoDup (map (λ r. r.cart) rs) × (NoShare rs × NoTrade rs)

  pub apart_of : ApartParts → Apart rs
  apart_of h = record { own_cart = h.0; no_share = h.1.0; no_trade = h.1.1 }

  pub apart_parts : Apart rs → ApartParts
  apart_parts h = (h.own_cart, (h.no_share, h.no_trade))

  abbrev pub dec_apart : Dec (Apart rs)
  dec_apart = dec_by apart_of apart_parts (dec_and (dec_nodup (map (λ r. r.cart) rs)) (dec_and (dec_no_share rs) (dec_no_trade rs)))

module _ (j : Job) (ps : List Path) where
  abbrev pub ServedParts : Type 0
  ServedParts = (length ps ≡ length j.calls) × (NoDup (map (λ p. p.call) ps) × ((p : Path) → In p ps → Leads j p))

  pub served_of : ServedParts → CallsServed j ps
  served_of h = record { size = h.0; leads = h.1.1; own_call = h.1.0 }

  pub served_parts : CallsServed j ps → ServedParts
  served_parts h = (h.size, (h.own_call, h.leads))

  abbrev pub dec_served : Dec (CallsServed j ps)
  dec_served = dec_by served_of served_parts (dec_and (dec_eq (length ps) (length j.calls)) (dec_and (dec_nodup (map (λ p. p.call) ps)) (all_in (dec_leads j) ps)))

module _ (j : Job) (ps : List Path) (ss : List Ride) where
  abbrev pub PlanParts : Type 0
  PlanParts = CallsServed j ps × ((length ps + length ss ≡ length j.carts) × (((s : Ride) → In s ss → StaysOn j s) × Apart (map ride_of ps ++ ss)))

  pub plan_of : PlanParts → Plan j ps ss
  plan_of h = record { served = h.0; stay = h.1.1.0; size = h.1.0; apart = h.1.1.1 }

  pub plan_parts : Plan j ps ss → PlanParts
  plan_parts h = (h.served, (h.size, (h.stay, h.apart)))

  abbrev pub dec_plan : Dec (Plan j ps ss)
  dec_plan = dec_by plan_of plan_parts
      (dec_and (dec_served j ps) (dec_and (dec_eq (length ps + length ss) (length j.carts)) (dec_and (all_in (dec_stays j) ss) (dec_apart (map ride_of ps ++ ss)))))

abbrev pub dec_sooner : (p q : Call) → Dec (Sooner p q)
dec_sooner p q = dec_lex _ _ _ _

abbrev pub dec_before : (j : Job) (p q : Path) → Dec (Before j p q)
dec_before j p q = dec_sooner (call_of j p.call) (call_of j q.call)

abbrev pub dec_right_plan : (j : Job) (ps : List Path) (ss : List Ride) → Dec (RightPlan j ps ss)
dec_right_plan j ps ss = dec_and (dec_plan j ps ss) (dec_and (dec_rising (dec_before j) ps) (dec_rising (λ r s. dec-lt r.cart s.cart) ss))

-- Choke lists.
abbrev pub dec_known : (j : Job) (x : Choke) → Dec (KnownChoke j x)
dec_known j (cell_step x) = dec_and (dec-lt x.cell j.cells) (dec_le x.step (horizon j))
dec_known j (whole_call k) = dec_and (dec-lt k (length j.calls)) (dec_lift (call_of j k).kind)

abbrev pub dec_stops : (w : List ℕ) (k : ℕ) (x : Choke) → Dec (Stops w k x)
dec_stops w k (cell_step x) = dec_at w x.step x.cell
dec_stops w k (whole_call m) = dec_eq m k

abbrev pub dec_stands : (w : List ℕ) (k : ℕ) (xs : List Choke) → Dec (StandsOn w k xs)
dec_stands w k xs = any_in (dec_stops w k) xs

module _ (j : Job) (xs : List Choke) where
  -- of the walks that are listed
  abbrev pub ChokesListed : Type 0
  ChokesListed = (c : ℕ) → In c j.carts → (k : ℕ) → k < length j.calls → (w : List ℕ) → In w (walks_of j (call_of j k) c)
      → Serves w (call_of j k) × Walk j c w → StandsOn w k xs

  pub chokes_of : (length xs < length j.calls) × (((x : Choke) → In x xs → KnownChoke j x) × ChokesListed) → TrueChokes j xs
  chokes_of h = record { known = h.1.0; few = h.0; chokes = λ c i k l w a b. h.1.1 c i k l w (walk_listed j c (call_of j k) w a b) (b, a) }

  pub chokes_parts : TrueChokes j xs → (length xs < length j.calls) × (((x : Choke) → In x xs → KnownChoke j x) × ChokesListed)
  chokes_parts h = (h.few, (h.known, λ c i k l w m s. h.chokes c i k l w s.1 s.0))

  abbrev pub dec_chokes : Dec (TrueChokes j xs)
  dec_chokes = dec_by chokes_of chokes_parts (dec_and (dec-lt (length xs) (length j.calls)) (dec_and (all_in (dec_known j) xs)
      (all_in (λ c. all-below (λ k. all_in (λ w. dec_imp (dec_and (dec_serves w (call_of j k)) (dec_walk j c w)) (dec_stands w k xs)) (walks_of j (call_of j k) c)) (length j.calls)) j.carts)))

abbrev pub dec_rises : (x y : Choke) → Dec (Rises x y)
dec_rises (cell_step x) (cell_step y) = dec_lex x.step x.cell y.step y.cell
dec_rises (cell_step x) (whole_call m) = yes tt
dec_rises (whole_call k) (cell_step y) = no (λ h. h)
dec_rises (whole_call k) (whole_call m) = dec-lt k m

abbrev pub dec_right_chokes : (j : Job) (xs : List Choke) → Dec (RightChokes j xs)
dec_right_chokes j xs = dec_and (dec_chokes j xs) (dec_rising dec_rises xs)
