-- What a run came to, once all passes were given back.
use Rattle.std.proofs.Common.{◌≡◌, ◌≢◌, ◌⊎◌, inl, inr, refl, sym, ap, subst, ◌∙◌, arith, ℕ, zero, suc, ◌+◌, ◌<◌, ◌≤◌, ◌==◌, true, false, List, [], ◌∷◌, ◌++◌, length, take, slice_get, slice_index_or, Option, Some, Bool, leb}
use Rattle.std.proofs.lemmas.Bool.{eq-eqb}
use Rattle.std.proofs.lemmas.Bool.Decides.{leb_tells}
use Rattle.std.proofs.lemmas.Option.{slice_get_within}
use Rattle.std.specs.List.{AllByRecursion}
use mathlib.Core.Option.{some}
use lib.ListN.{get_elem?}
use Rattle.grasp_types.specs.declared.traffic.Input.TheVariants as input
use Rattle.grasp_model_node.specs.Node.{NodeState}
use Rattle.grasp_core.specs.declared.node_core.NodeCore.{NodeCore}
use Rattle.grasp_shared.specs.Calls.{Kept, LedTo}
use Rattle.grasp_shared.specs.Handles.{view_of, root_view, out_of}
use Rattle.grasp_shared.specs.History.{Entry, History, Reaches, own_calls}
use Rattle.grasp_shared.specs.Passes.{kept, HasJust, NoOther}
use Rattle.grasp_shared.specs.declared.shared.Pass.{Pass}
use Rattle.grasp_shared.specs.declared.shared.Root.{Root}
use Rattle.grasp_shared.specs.declared.shared.Shared.{Shared}
use Rattle.grasp_node_main.specs.Roots.{IsFresh}
use Rattle.grasp_node_main.specs.Seats.{SeatStands, SeatsStand}
use Rattle.grasp_node_main.specs.Sharing.{HasPass, AllHavePasses, SeatGoes, SeatsGo, Went, Given, Splits, keep_of, keeps, IsLeft, Joins}
use Rattle.grasp_node_main.specs.Steps.{DrainsOut, Looped, RanShared, RanSeats}
use Rattle.grasp_node_main.specs.Tells.{LinksTold, Told, told}
use Rattle.grasp_node_main.specs.Turns.{loop_call, all_turn_calls, last_reading}
use Rattle.grasp_node_main.specs.declared.seated_agent.SeatedAgent.{SeatedAgent}
use Rattle.grasp_node_main.specs.declared.worker.Worker.{Worker}
use Rattle.grasp_node_main.proofs.Lists.{read_at, take_whole, stands_at}
use Rattle.grasp_node_main.proofs.Seating.{one_pass}

-- ---- all agents have passes

-- once they were given out
pub passes_given : (shared : Shared) (a b : Root) (olds news : List SeatedAgent) → Splits (length olds) shared a olds b news → AllHavePasses shared news
passes_given shared a b olds news k place d lt =
    let new = stands_at news place lt in
    let old = stands_at olds place (omega (arith, lt, k.same)) in
    let g = k.given place old.item new.item (omega (arith, lt, k.same)) old.at new.at in
    subst (HasPass shared) (sym (read_at news place new.item d new.at)) (record { pass = g.pass; is = g.is; own = g.own })

-- all agents still have their passes after all turns
pub passes_kept : (shared : Shared) (count : ℕ) (olds news : List SeatedAgent) → SeatsGo shared count olds news → AllHavePasses shared news
passes_kept shared count olds news k place d lt = let g = k.1 place d (omega (arith, lt, k.0)) in record { pass = g.after; is = g.is; own = g.own }

-- ---- an agent from its first turn to its last

went_one : (shared : Shared) (count number n : ℕ) (s m t : SeatedAgent) → Given shared n s m → n ≡ number → SeatGoes shared count m t → Went count number s t
went_one shared count number n s m t g is go =
    let same : go.before ≡ g.pass = one_pass m go.before g.pass go.was g.is in
    let none : (view_of go.before).mine ≡ [] = ap (λ (p : Pass). (view_of p).mine) same ∙ g.none in
    record {
      pass = go.after;
      is = go.is;
      number_is = go.number ∙ ap (λ (p : Pass). (view_of p).number) same ∙ g.number_is ∙ is;
      stands = λ w k.
          let first : SeatStands w [] 0 m = record { calls_are = k.calls_are; most = k.most; going = λ e. let x = k.going (sym g.stopped ∙ e) in (x.0, g.worker ∙ x.1) } in
          let zero_more : 0 + count ≡ count = omega arith in
          subst (λ c. SeatStands w (view_of go.after).mine c t) zero_more (go.stands w 0 (subst (λ (h : History). SeatStands w h 0 m) (sym none) first));
    }

-- ---- the whole run

module _ (shared : Shared) (wait count now : ℕ) (r₀ r₁ r₂ r₃ r₄ : Root) (s₀ s₁ s₂ s₃ : List SeatedAgent) (x y : Told) (links : LinksTold)
    (fresh : IsFresh r₀) (split : Splits (length s₀) shared r₀ s₀ r₁ s₁) (loop : Looped shared wait count r₁ x now r₂ y) (go : SeatsGo shared count s₁ s₂)
    (join : Joins (length s₂) shared r₂ s₂ r₃ s₃) (drain : DrainsOut shared now 320 r₃ y.links r₄ links) where
  no_pass_out : out_of r₄ ≡ 0
  no_pass_out = omega (arith, drain.made.out, join.root.out, loop.made.out, split.root.out, fresh.out, go.0, split.same)

  loop_made : (root_view r₄).mine ≡ all_turn_calls loop.turns ++ loop_call (last_reading 0 loop.turns) (input.Drain 320) drain.drained ∷ []
  loop_made =
      let first : (root_view r₁).mine ≡ [] = split.root.mine ∙ fresh.mine in
      let turns : (root_view r₃).mine ≡ all_turn_calls loop.turns = join.root.mine ∙ loop.made.mine ∙ ap (λ (h : History). h ++ all_turn_calls loop.turns) first in
      drain.made.mine ∙ ap (λ (h : History). h ++ loop_call now (input.Drain 320) drain.drained ∷ []) turns
      ∙ ap (λ n. all_turn_calls loop.turns ++ loop_call n (input.Drain 320) drain.drained ∷ []) loop.now_is

  all_joined : (root_view r₄).joined ≡ keeps s₂
  all_joined =
      let first : (root_view r₂).joined ≡ [] = loop.made.joined ∙ split.root.joined ∙ fresh.joined in
      drain.made.joined ∙ join.root.joined ∙ ap (λ (l : List Kept). l ++ keeps (take (length s₂) s₂)) first ∙ ap keeps (take_whole s₂)

  went : (place : ℕ) (s t : SeatedAgent) → slice_get s₀ place ≡ Some s → slice_get s₂ place ≡ Some t → Went count (place + 1) s t
  went place s t ats att =
      let lt : place < length s₀ = slice_get_within s₀ place s ats in
      let m = stands_at s₁ place (omega (arith, lt, split.same)) in
      let given = split.given place s m.item lt ats m.at in
      let number : (root_view r₀).made + place ≡ place + 1 = omega (arith, fresh.made) in
      let goes : SeatGoes shared count m.item t =
      subst (λ (u : SeatedAgent). SeatGoes shared count u t) (read_at s₁ place m.item s m.at)
      (subst (λ (u : SeatedAgent). SeatGoes shared count (slice_index_or s₁ place s) u) (read_at s₂ place t s att) (go.1 place s (slice_get_within s₁ place m.item m.at))) in
      went_one shared count (place + 1) ((root_view r₀).made + place) s m.item t given number goes

  pub ran_shared : RanShared shared wait count x r₀ s₀ (told y.readings links) r₄ s₃
  ran_shared = record {
    turns = loop.turns;
    last = drain.drained;
    count_is = loop.count_is;
    tells = record { middle = y; turns = loop.tells; readings = refl; hands = drain.hands };
    rising = loop.rising;
    own = drain.made.own;
    none = no_pass_out;
    mine = loop_made;
    opened = drain.made.opened ∙ join.root.opened ∙ loop.made.opened ∙ split.root.opened;
    ready = s₂;
    joined = all_joined;
    same_ready = go.0 ∙ split.same;
    same = join.same ∙ go.0 ∙ split.same;
    went = went;
    left = λ place s t ats att. join.left place s t (slice_get_within s₂ place s ats) ats att;
  }

-- ---- the passes that were joined

-- each agent has a pass, numbered by its place
abbrev AreNumbered : ℕ → List SeatedAgent → Type 0
AreNumbered n seats = (place : ℕ) (s : SeatedAgent) → slice_get seats place ≡ Some s → (p : Pass) × (s.pass ≡ Some p) × ((view_of p).number ≡ place + n)

numbered_on : (n : ℕ) (s : SeatedAgent) (seats : List SeatedAgent) → AreNumbered n (s ∷ seats) → AreNumbered (n + 1) seats
numbered_on n s seats h place t at = let x = h (suc place) t at in (x.0, x.1, (let e = x.2 in omega (arith, e)))

-- what is kept of the agent at a place
kept_at : (n : ℕ) (seats : List SeatedAgent) (place : ℕ) (s : SeatedAgent) (p : Pass) → AreNumbered n seats → slice_get seats place ≡ Some s → s.pass ≡ Some p → get_elem? (keeps seats) place ≡ some (kept (view_of p))
kept_at n [] place s p h at is = absurd (cc)
kept_at n (t ∷ seats) zero s p h at is =
    let same : t ≡ s = cc in
    let pass : t.pass ≡ Some p = ap (λ (u : SeatedAgent). u.pass) same ∙ is in
    ap (λ (o : Option Pass). get_elem? (keep_of o ++ keeps seats) 0) pass
kept_at n (t ∷ seats) (suc place) s p h at is =
    let first = h 0 t refl in
    ap (λ (o : Option Pass). get_elem? (keep_of o ++ keeps seats) (suc place)) first.1 ∙ kept_at (n + 1) seats place s p (numbered_on n t seats h) at is

-- the number that is kept of an agent is below the one behind the last agent's
kept_numbers : (n : ℕ) (seats : List SeatedAgent) (i : ℕ) (k : Kept) → AreNumbered n seats → get_elem? (keeps seats) i ≡ some k → k.number < n + length seats
kept_numbers n [] i k h at = absurd (cc)
kept_numbers n (t ∷ seats) zero k h at =
    let first = h 0 t refl in
    let e : some (kept (view_of first.0)) ≡ some k = sym (ap (λ (o : Option Pass). get_elem? (keep_of o ++ keeps seats) 0) first.1) ∙ at in
    let same : kept (view_of first.0) ≡ k = cc in
    let number : (view_of first.0).number ≡ k.number = ap (λ (x : Kept). x.number) same in
    omega (arith, number, first.2)
kept_numbers n (t ∷ seats) (suc j) k h at =
    let first = h 0 t refl in
    let e : get_elem? (keeps seats) j ≡ some k = sym (ap (λ (o : Option Pass). get_elem? (keep_of o ++ keeps seats) (suc j)) first.1) ∙ at in
    let l = kept_numbers (n + 1) seats j k (numbered_on n t seats h) e in omega (arith, l)

-- ---- the callers of a history

own_of_rest : (n : ℕ) (e : Entry) (h : History) → own_calls n (e ∷ h) ≡ [] → own_calls n h ≡ []
own_of_rest n e h is = by (e.caller == n) refl where
  by : (b : Bool) → (e.caller == n) ≡ b → own_calls n h ≡ []
  by true t = let more : own_calls n (e ∷ h) ≡ e ∷ own_calls n h = rw t refl in absurd (cc)
  by false t = let more : own_calls n (e ∷ h) ≡ own_calls n h = rw t refl in sym more ∙ is

own_of_first : (e : Entry) (h : History) → own_calls e.caller (e ∷ h) ≢ []
own_of_first e h is =
    let more : own_calls e.caller (e ∷ h) ≡ e ∷ own_calls e.caller h = rw (eq-eqb e.caller e.caller refl) refl in
    absurd (cc)

-- where no caller above a number made a call, each is at most this number
all_below : (most : ℕ) (h : History) → ((n : ℕ) → most < n → own_calls n h ≡ []) → AllByRecursion (λ (e : Entry). e.caller ≤ most) h
all_below most [] f = tt
all_below most (e ∷ h) f = (first (leb_tells e.caller most), all_below most h (λ n lt. own_of_rest n e h (f n lt))) where
  first : ((leb e.caller most ≡ true) × (e.caller ≤ most)) ⊎ ((leb e.caller most ≡ false) × (most < e.caller)) → e.caller ≤ most
  first (inl l) = l.1
  first (inr l) = absurd (own_of_first e h (f e.caller l.1))

-- ---- the node's history

stands_left : (w : Worker) (h : History) (count : ℕ) (s t : SeatedAgent) → SeatStands w h count s → IsLeft s t → SeatStands w h count t
stands_left w h count s t k l = record { calls_are = k.calls_are; most = k.most; going = λ e. let x = k.going (sym l.stopped ∙ e) in (x.0, l.worker ∙ x.1) }

module _ (shared : Shared) (wait count : ℕ) (x y : Told) (r₀ r₄ : Root) (s₀ s₃ : List SeatedAgent) (core₀ core : NodeCore) (from : NodeState) (crew : List Worker)
    (r : RanShared shared wait count x r₀ s₀ y r₄ s₃) (opened : (root_view r₀).opened ≡ Some core₀) (reaches : Reaches from [] core₀) (stand : SeatsStand crew [] 0 s₀)
    (led : LedTo (root_view r₄).opened (root_view r₄).seen core) (just : HasJust (root_view r₄)) (no_other : NoOther (root_view r₄)) where
  abbrev seen : History
  seen = (root_view r₄).seen

  went_at : (place : ℕ) (t : SeatedAgent) (att : slice_get r.ready place ≡ Some t) → let lt = slice_get_within r.ready place t att in Went count (place + 1) (stands_at s₀ place (omega (arith, lt, r.same_ready))).item t
  went_at place t att =
      let lt = slice_get_within r.ready place t att in
      let old = stands_at s₀ place (omega (arith, lt, r.same_ready)) in
      r.went place old.item t old.at att

  numbered : AreNumbered 1 r.ready
  numbered place t att = let w = went_at place t att in (w.pass, w.is, w.number_is)

  below : AllByRecursion (λ (e : Entry). e.caller ≤ length crew) seen
  below = all_below (length crew) seen (λ n lt. no_other n (let z = r₄.is_root.0 in omega (arith, lt, z)) (λ i k at.
      let l = kept_numbers 1 r.ready i k numbered (ap (λ (l : List Kept). get_elem? l i) (sym r.joined) ∙ at) in
      omega (arith, l, lt, r.same_ready, stand.same)))

  own_loop : own_calls 0 seen ≡ (root_view r₄).mine
  own_loop = subst (λ n. own_calls n seen ≡ (root_view r₄).mine) r₄.is_root.0 just.0

  stands_now : (place : ℕ) (w : Worker) (s : SeatedAgent) → slice_get crew place ≡ Some w → slice_get s₃ place ≡ Some s → SeatStands w (own_calls (place + 1) seen) count s
  stands_now place w s atw ats =
      let lt = slice_get_within s₃ place s ats in
      let t = stands_at r.ready place (omega (arith, lt, r.same, r.same_ready)) in
      let old = stands_at s₀ place (omega (arith, lt, r.same)) in
      let went = r.went place old.item t.item old.at t.at in
      let stood = went.stands w (stand.each place w old.item atw old.at) in
      let kept_is = ap (λ (l : List Kept). get_elem? l place) r.joined ∙ kept_at 1 r.ready place t.item went.pass numbered t.at went.is in
      let own : own_calls (view_of went.pass).number seen ≡ (view_of went.pass).mine = just.1 r₄.is_root.0 place (kept (view_of went.pass)) kept_is in
      let calls : (view_of went.pass).mine ≡ own_calls (place + 1) seen = sym own ∙ ap (λ n. own_calls n seen) went.number_is in
      stands_left w (own_calls (place + 1) seen) count t.item s (subst (λ (h : History). SeatStands w h count t.item) calls stood) (r.left place t.item s t.at ats)

  pub ran_seats : RanSeats from crew wait count x s₃ y
  ran_seats =
      let reach = led.led core₀ (r.opened ∙ opened) from [] reaches in
      record {
        history = seen;
        to = reach.to;
        turns = r.turns;
        last = r.last;
        legal = reach.legal;
        callers = below;
        count_is = r.count_is;
        loop = own_loop ∙ r.mine;
        tells = r.tells;
        rising = r.rising;
        agents = record { same = r.same ∙ stand.same; each = stands_now };
      }
