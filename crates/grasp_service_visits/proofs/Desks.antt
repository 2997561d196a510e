-- What a desk tells, part after part.
use Rattle.std.proofs.Common.{◌≡◌, ◌≤◌, ◌⊎◌, inl, inr, ℕ, List, [], ◌∷◌, ◌++◌, Option, None, Some, ◌∙◌, refl, ap, sym, subst, arith, true, false}
use Rattle.grasp_desk.specs.Desk.{IsNext, Gives, Tells}
use Rattle.grasp_desk.specs.declared.desk.Told.{Told}
use Rattle.grasp_desk.specs.declared.desk.Visiting.{Visiting}
use Rattle.grasp_desk.specs.declared.desk.Visiting.TheVariants.{Came, Line, Left, Nothing, OutOfMemory}
use Rattle.grasp_io.proofs.Facts.{rose_before}
use Rattle.grasp_io.specs.Faults.{Rose}
use Rattle.grasp_io.specs.Memory.{one_more}
use Rattle.grasp_io.specs.Told.{Stays, Grows, MayGrow}
use Rattle.grasp_service_visits.specs.Desks.{DeskTold, is_visit, DeskRests, AsksInVain, VisitsOnce, VisitsAll, TellsAll, TellsOnly}

false_is_true : false ≡ true → ⊥
false_is_true e = cc

module _ {A : Type 0} where
  pub stays_same : (a : Option (List A)) → Stays a a
  stays_same None = tt
  stays_same (Some xs) = refl

  pub stays_on : (a b c : Option (List A)) → Stays a b → Stays b c → Stays a c
  stays_on None b c p q = tt
  stays_on (Some xs) None c p q = absurd p
  stays_on (Some xs) (Some ys) None p q = absurd q
  stays_on (Some xs) (Some ys) (Some zs) p q = q ∙ p

  pub stays_grows : (a b c : Option (List A)) (x : A) → Stays a b → Grows b c x → Grows a c x
  stays_grows None b c x p q = tt
  stays_grows (Some xs) None c x p q = absurd p
  stays_grows (Some xs) (Some ys) None x p q = absurd q
  stays_grows (Some xs) (Some ys) (Some zs) x p q = q ∙ ap (λ l. l ++ x ∷ []) p

  pub stays_may : (a b c : Option (List A)) (x : A) → Stays a b → MayGrow b c x → MayGrow a c x
  stays_may None b c x p q = tt
  stays_may (Some xs) None c x p q = absurd p
  stays_may (Some xs) (Some ys) None x p q = absurd q
  stays_may (Some xs) (Some ys) (Some zs) x p (inl e) = inl (e ∙ ap (λ l. l ++ x ∷ []) p)
  stays_may (Some xs) (Some ys) (Some zs) x p (inr e) = inr (e ∙ p)

-- ---- what came

-- nothing happened
pub rests_same : (x : DeskTold) → DeskRests x x
rests_same x = record { is_open = refl; plans = stays_same x.plans; asks = refl; given = stays_same x.given; told = stays_same x.told; came = refl; faults = omega arith }

rests_on : (x y z : DeskTold) → DeskRests x y → DeskRests y z → DeskRests x z
rests_on x y z p q = record {
  is_open = q.is_open ∙ p.is_open;
  plans = stays_on x.plans y.plans z.plans p.plans q.plans;
  asks = q.asks ∙ p.asks;
  given = stays_on x.given y.given z.given p.given q.given;
  told = stays_on x.told y.told z.told p.told q.told;
  came = q.came ∙ p.came;
  faults = omega (arith, p.faults, q.faults);
}

rests_then : (x y z : DeskTold) (v : Visiting) → DeskRests x y → VisitsOnce y v z → VisitsOnce x v z
rests_then x y z v p q = record {
  is_open = q.is_open ∙ p.is_open;
  plans = stays_on x.plans y.plans z.plans p.plans q.plans;
  asks = q.asks ∙ ap one_more p.asks;
  given = stays_grows x.given y.given z.given v p.given q.given;
  told = stays_on x.told y.told z.told p.told q.told;
  next = subst (λ n. IsNext n z.came v) p.came q.next;
  faults = omega (arith, p.faults, q.faults);
}

rests_visits : (x y z : DeskTold) (ws : List Visiting) → DeskRests x y → VisitsAll y ws z → VisitsAll x ws z
rests_visits x y z [] p q = rests_on x y z p q
rests_visits x y z (w ∷ ws) p q = (q.0, rests_then x y q.0 w p q.1, q.2)

-- this came, and nothing else
pub visits_one : (x y : DeskTold) (v : Visiting) → VisitsOnce x v y → VisitsAll x (v ∷ []) y
visits_one x y v p = (y, p, rests_same y)

-- these came, and then those
pub visits_on : (x y z : DeskTold) (vs ws : List Visiting) → VisitsAll x vs y → VisitsAll y ws z → VisitsAll x (vs ++ ws) z
visits_on x y z [] ws p q = rests_visits x y z ws p q
visits_on x y z (v ∷ vs) ws p q = (p.0, p.1, visits_on p.0 y z vs ws p.2 q)

-- an asking came to something, or to nothing
pub came_once : (x y : DeskTold) (v : Visiting) → is_visit v ≡ true → y.is_open ≡ x.is_open → Stays x.plans y.plans → y.asks ≡ one_more x.asks → Gives x.given y.given v
    → Stays x.told y.told → IsNext x.came y.came v → x.faults ≤ y.faults
    → VisitsOnce x v y
came_once x y (Came visitor guest) e is p k g t n f = record { is_open = is; plans = p; asks = k; given = g; told = t; next = n; faults = f }
came_once x y (Line visitor line) e is p k g t n f = record { is_open = is; plans = p; asks = k; given = g; told = t; next = n; faults = f }
came_once x y (Left visitor) e is p k g t n f = record { is_open = is; plans = p; asks = k; given = g; told = t; next = n; faults = f }
came_once x y Nothing e is p k g t n f = absurd (false_is_true e)
came_once x y OutOfMemory e is p k g t n f = absurd (false_is_true e)

pub came_nothing : (x y : DeskTold) (v : Visiting) → is_visit v ≡ false → y.is_open ≡ x.is_open → Stays x.plans y.plans → y.asks ≡ one_more x.asks → Gives x.given y.given v
    → Stays x.told y.told → IsNext x.came y.came v → x.faults ≤ y.faults
    → AsksInVain x y
came_nothing x y (Came visitor guest) e is p k g t n f = absurd (false_is_true (sym e))
came_nothing x y (Line visitor line) e is p k g t n f = absurd (false_is_true (sym e))
came_nothing x y (Left visitor) e is p k g t n f = absurd (false_is_true (sym e))
came_nothing x y Nothing e is p k g t n f = record { is_open = is; plans = p; asks = k; given = g; told = t; came = n; faults = f }
came_nothing x y OutOfMemory e is p k g t n f = record { is_open = is; plans = p; asks = k; given = g; told = t; came = n; faults = f }

-- ---- what was told

tells_later : (a b c : Option (List Told)) (f g h : ℕ) (line : Told) → Stays a b → f ≤ g → Tells b c line g h → g ≤ h → Tells a c line f h
tells_later a b c f g h line s l t k = record { may = stays_may a b c line s t.may; all = either t.all }
  where
    either : Grows b c line ⊎ Rose g h → Grows a c line ⊎ Rose f h
    either (inl e) = inl (stays_grows a b c line s e)
    either (inr r) = inr (rose_before f g h l r)

stays_then : (a b c : Option (List Told)) (f g h : ℕ) (ls : List Told) → Stays a b → f ≤ g → TellsAll b g ls c h → TellsAll a f ls c h
stays_then a b c f g h [] s l t = (stays_on a b c s t.0, omega (arith, l, t.1))
stays_then a b c f g h (x ∷ ls) s l t = (t.0, t.1, tells_later a b t.0 f g t.1 x s l t.2 t.3, omega (arith, l, t.3), t.4)

tells_more : (a b c : Option (List Told)) (f g h : ℕ) (ls ms : List Told) → TellsAll a f ls b g → TellsAll b g ms c h → TellsAll a f (ls ++ ms) c h
tells_more a b c f g h [] ms s t = stays_then a b c f g h ms s.0 s.1 t
tells_more a b c f g h (x ∷ ls) ms s t = (s.0, s.1, s.2, s.3, tells_more s.0 b c s.1 g h ls ms s.4 t)

-- nothing was told
pub tells_nothing : (x : DeskTold) → TellsOnly x [] x
tells_nothing x = record { is_open = refl; plans = stays_same x.plans; asks = refl; given = stays_same x.given; told = (stays_same x.told, omega arith); came = refl }

-- one line more
pub tells_one : (x y z : DeskTold) (ls : List Told) (line : Told) → TellsOnly x ls y → z.is_open ≡ y.is_open → Stays y.plans z.plans → z.asks ≡ y.asks → Stays y.given z.given
    → Tells y.told z.told line y.faults z.faults → z.came ≡ y.came → y.faults ≤ z.faults → TellsOnly x (ls ++ line ∷ []) z
tells_one x y z ls line p is plans asks given told came faults = record {
  is_open = is ∙ p.is_open;
  plans = stays_on x.plans y.plans z.plans p.plans plans;
  asks = asks ∙ p.asks;
  given = stays_on x.given y.given z.given p.given given;
  told = tells_more x.told y.told z.told x.faults y.faults z.faults ls (line ∷ []) p.told (z.told, z.faults, told, faults, (stays_same z.told, omega arith));
  came = came ∙ p.came;
}
