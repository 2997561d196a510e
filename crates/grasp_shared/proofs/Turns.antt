-- What a turn does to a seat.
use Rattle.std.proofs.Common.{◌≡◌, ℕ, ◌+◌, ◌%◌, List, [], ◌∷◌, ◌++◌, refl, ap, sym, ◌∙◌, subst, Some}
use mathlib.Core.List.{IsPrefix}
use mathlib.Core.Option.{none}
use Rattle.atomic_table.specs.Table.{Allows, step, rest}
use Rattle.grasp_types.specs.declared.reply.Reply.{Reply}
use Rattle.grasp_types.specs.declared.traffic.Input.{Input}
use Rattle.grasp_core.specs.declared.node_core.NodeCore.{NodeCore}
use Rattle.grasp_shared.specs.Adding.{Adds}
use Rattle.grasp_shared.specs.Calls.{Answered, Opened, IsLegalFrom, LedTo, GoesOn, entry, answered}
use Rattle.grasp_shared.specs.History.{History}
use Rattle.grasp_shared.specs.Law.{Ruled}
use Rattle.grasp_shared.specs.Names.{Began, WentOn, MayEnd}
use Rattle.grasp_shared.specs.Passes.{taking, served, HasJust, Served}
use Rattle.grasp_shared.specs.Plays.{Sat, Took, ended}
use Rattle.grasp_shared.specs.declared.view.View.{View}
use Rattle.grasp_shared.proofs.Adding.{adds_on, adds_nothing}
use Rattle.grasp_shared.proofs.Keeps.{ends}

-- a registry begins with the core that it was opened with
pub led_nowhere : (core : NodeCore) → LedTo (Some core) [] core
led_nowhere core = record { led = λ first is. let same : core ≡ first = cc is in subst (λ (x : NodeCore). Adds x [] core) same (adds_nothing core) }

-- one more call
pub led_on : (opened : Opened) (history : History) (h : NodeCore) (number : ℕ) (c : Answered) (k : NodeCore) → LedTo opened history h → GoesOn h c k → LedTo opened (history ++ entry number c ∷ []) k
led_on opened history h number c k l g = record { led = λ first is. adds_on first h k history (entry number c ∷ []) (l.led first is) (g.goes number) }

-- what led to a core is legal
pub led_legal : (opened : Opened) (history : History) (h : NodeCore) → LedTo opened history h → IsLegalFrom opened history
led_legal opened history h l = record { legal = λ core is from x. let t = l.led core is from [] x in (t.to, t.legal) }

-- the core in hand after a step
pub went_on : (m : Sat) (x old new : NodeCore) (c : Answered) → m.1 ≡ (0, x) ∷ [] → m.1 ≡ (0, old) ∷ rest m.1 → GoesOn old c new → WentOn m (m.0, (0, new) ∷ rest m.1) c
went_on m x old new c e f g =
    let none : rest m.1 ≡ [] = ap (λ (l : List (ℕ × NodeCore)). rest l) e in (
      old,
      new,
      f ∙ ap (λ (l : List (ℕ × NodeCore)). (0, old) ∷ l) none,
      ap (λ (l : List (ℕ × NodeCore)). let w : Sat = (m.0, (0, new) ∷ l) in w) none,
      g,
    )

-- a call of a pass that is as it was before, with the same input
pub served_from : (m n : Sat) (w : View) (now : ℕ) (i j : Input) (r : Reply) → n ≡ m → j ≡ i → Served n.0 w (answered now j r) → Served m.0 w (answered now i r)
served_from m n w now i j r same asked s = subst (λ (x : Sat). Served x.0 w (answered now i r)) same (subst (λ (x : Input). Served n.0 w (answered now x r)) asked s)

pub began : (m₀ m₁ m₂ : Sat) → m₁ ≡ m₀ → m₀.1 ≡ [] → Took LedTo m₁ m₂ → Began m₀ m₂
began m₀ m₁ m₂ e clear t = (
  t.0,
  t.1,
  subst (λ (m : Sat). IsPrefix m.0.seen t.0) e t.2,
  subst (λ (m : Sat). LedTo m.0.opened t.0 t.1) e t.3,
  t.4 ∙ (ap (λ (m : Sat). let w : Sat = (taking m.0 t.0, (0, t.1) ∷ m.1) in w) e ∙ (λ i. (taking m₀.0 t.0, (0, t.1) ∷ clear i))),
)

pub ends_at : (opened : Opened) (slots id : ℕ) (m : Sat) (h : NodeCore) (c : Answered) → m.1 ≡ (0, h) ∷ [] → m.0.live ≡ 1 → m.0.turn ≡ 1 → LedTo m.0.opened (m.0.seen ++ entry m.0.number c ∷ []) h
    → Allows (Ruled LedTo opened) slots id m 0 (λ n. (n + 1) % 18446744073709551616) (ended c (step slots 0 1 0 none) m)
ends_at opened slots id m h c e lv tv led =
    subst (λ (x : List (ℕ × NodeCore)). let w : Sat = (m.0, x) in Allows (Ruled LedTo opened) slots id w 0 (λ n. (n + 1) % 18446744073709551616) (ended c (step slots 0 1 0 none) w)) (sym e)
    (ends LedTo opened slots id m.0 h c lv tv led)

hand : NodeCore → List (ℕ × NodeCore) → NodeCore
hand d [] = d
hand d (x ∷ xs) = x.1

same_hand : (h k : NodeCore) (l : List (ℕ × NodeCore)) → l ≡ (0, h) ∷ [] → l ≡ (0, k) ∷ [] → h ≡ k
unfolding hand
same_hand h k l e f = ap (hand h) (sym e ∙ f)

pub may_end : (m n o : Sat) (c : Answered) → m.0.live ≡ 1 → Began m n → WentOn n o c → MayEnd o c
may_end m n o c lv b s =
    let v = m.0 in
    let same : s.0 ≡ b.1 = same_hand s.0 b.1 n.1 s.2 (ap (λ (x : Sat). x.1) b.4) in
    let goes : GoesOn b.1 c s.1 = subst (λ (h : NodeCore). GoesOn h c s.1) same s.4 in
    let is : o ≡ (taking v b.0, (0, s.1) ∷ []) = s.3 ∙ ap (λ (x : Sat). let w : Sat = (x.0, (0, s.1) ∷ []) in w) b.4 in
    subst (λ (x : Sat). MayEnd x c) (sym is) (s.1, refl, lv, refl, led_on v.opened b.0 b.1 v.number c s.1 b.3 goes)

-- a turn that ended with this call
pub turned : (m n o p : Sat) (c : Answered) → (b : Began m n) → WentOn n o c → p ≡ (served o.0 o.0.seen c, []) → HasJust p.0 → Served m.0 p.0 c
turned m n o p c b s e just =
    let v = m.0 in
    let same : s.0 ≡ b.1 = same_hand s.0 b.1 n.1 s.2 (ap (λ (x : Sat). x.1) b.4) in
    let goes : GoesOn b.1 c s.1 = subst (λ (h : NodeCore). GoesOn h c s.1) same s.4 in
    let w : o.0 ≡ taking v b.0 = ap (λ (x : Sat). x.0) s.3 ∙ ap (λ (x : Sat). x.0) b.4 in
    let is : p.0 ≡ served v b.0 c = ap (λ (x : Sat). x.0) e ∙ ap (λ (x : View). served x x.seen c) w in
    let after : History = b.0 ++ entry v.number c ∷ [] in (
      b.0,
      b.2,
      is,
      subst (λ (x : View). IsLegalFrom v.opened x.seen) (sym is) (led_legal v.opened after s.1 (led_on v.opened b.0 b.1 v.number c s.1 b.3 goes)),
      just,
    )
