-- What is told, part after part.
use Rattle.std.proofs.Common.{◌≡◌, ◌≤◌, inl, inr, ℕ, List, [], ◌∷◌, ◌++◌, Option, None, Some, ◌∙◌, refl, ap, subst, arith}
use Rattle.grasp_io.proofs.Facts.{rose_before}
use Rattle.grasp_io.specs.Counted.{StaysAt}
use Rattle.grasp_io.specs.Faults.{Rose}
use Rattle.grasp_io.specs.Told.{Stays, Grows, MayGrow}
use Rattle.grasp_io.specs.Links.{Hands, IsAnswer}
use Rattle.grasp_io.specs.declared.links.Sent.{Sent}
use Rattle.grasp_io.specs.declared.links.Sent.TheVariants as sent
use Rattle.grasp_types.specs.declared.traffic.Output.{Output}
use Rattle.grasp_types.specs.declared.traffic.Output.TheVariants as output
use Rattle.grasp_node_main.specs.Tells.{LinksTold, Told, HandsOver, HandsAll, HandsOnly, TellsTurn, TellsTurns}
use Rattle.grasp_node_main.specs.Turns.{Turn}

module _ {A : Type 0} where
  pub stays_same : (a : Option (List A)) → Stays a a
  stays_same None = tt
  stays_same (Some xs) = refl

  pub stays_on : (a b c : Option (List A)) → Stays a b → Stays b c → Stays a c
  stays_on None b c p q = tt
  stays_on (Some xs) None c p q = absurd p
  stays_on (Some xs) (Some ys) None p q = absurd q
  stays_on (Some xs) (Some ys) (Some zs) p q = q ∙ p

  pub stays_grows : (a b c : Option (List A)) (x : A) → Stays a b → Grows b c x → Grows a c x
  stays_grows None b c x p q = tt
  stays_grows (Some xs) None c x p q = absurd p
  stays_grows (Some xs) (Some ys) None x p q = absurd q
  stays_grows (Some xs) (Some ys) (Some zs) x p q = q ∙ ap (λ l. l ++ x ∷ []) p

-- ---- counts

pub stays_at_same : (a : Option ℕ) → StaysAt a a
stays_at_same None = tt
stays_at_same (Some n) = refl

pub stays_at_on : (a b c : Option ℕ) → StaysAt a b → StaysAt b c → StaysAt a c
stays_at_on None b c p q = tt
stays_at_on (Some n) b c p q = subst (λ x. StaysAt x c) p q

-- ---- handing over

may : (a b : Option (List Output)) (f g : ℕ) (o : Output) → MayGrow a b o → Rose f g → f ≤ g → HandsOver a f o b g
may None b f g o p r l = inr (tt, r)
may (Some xs) None f g o p r l = absurd p
may (Some xs) (Some ys) f g o (inl e) r l = inl (e, l)
may (Some xs) (Some ys) f g o (inr e) r l = inr (e, r)

-- one output
pub handed_one : (a b : Option (List Output)) (f g : ℕ) (s : Sent) (o : Output) → Hands a b s o → IsAnswer o s f g → f ≤ g → HandsOver a f o b g
handed_one a b f g sent.Sent o h i l = inl (h, l)
handed_one a b f g sent.Lost (output.Datagram link to bytes) h i l = may a b f g (output.Datagram link to bytes) h i l
handed_one a b f g sent.Failed (output.Dial stream to) h i l = may a b f g (output.Dial stream to) h i l
handed_one a b f g sent.Failed (output.Send stream bytes) h i l = may a b f g (output.Send stream bytes) h i l
handed_one a b f g sent.Failed (output.Close stream) h i l = may a b f g (output.Close stream) h i l
handed_one a b f g _ _ h i l = absurd i

stays_over : (a b c : Option (List Output)) (f g h : ℕ) (o : Output) → Stays a b → f ≤ g → HandsOver b g o c h → HandsOver a f o c h
stays_over a b c f g h o s l (inl w) = inl (stays_grows a b c o s w.0, omega (arith, l, w.1))
stays_over a b c f g h o s l (inr w) = inr (stays_on a b c s w.0, rose_before f g h l w.1)

-- nothing, and then outputs
pub stays_then_hands : (a b c : Option (List Output)) (f g h : ℕ) (os : List Output) → Stays a b → f ≤ g → HandsAll b g os c h → HandsAll a f os c h
stays_then_hands a b c f g h [] s l w = (stays_on a b c s w.0, omega (arith, l, w.1))
stays_then_hands a b c f g h (o ∷ os) s l w = (w.0, w.1, stays_over a b w.0 f g w.1 o s l w.2, w.3)

-- some outputs, and then others
pub hands_more : (a b c : Option (List Output)) (f g h : ℕ) (os ps : List Output) → HandsAll a f os b g → HandsAll b g ps c h → HandsAll a f (os ++ ps) c h
hands_more a b c f g h [] ps v w = stays_then_hands a b c f g h ps v.0 v.1 w
hands_more a b c f g h (o ∷ os) ps v w = (v.0, v.1, v.2, hands_more v.0 b c v.1 g h os ps v.3 w)

-- one output and nothing more
pub handed_alone : (a b : Option (List Output)) (f g : ℕ) (o : Output) → HandsOver a f o b g → HandsAll a f (o ∷ []) b g
handed_alone a b f g o w = (b, g, w, (stays_same b, omega arith))

-- nothing
pub hands_nothing : (x : LinksTold) → HandsOnly x [] x
hands_nothing x = record { is_open = refl; plans = stays_same x.plans; asks = stays_at_same x.asks; waits = stays_same x.waits; given = stays_same x.given; handed = (stays_same x.handed, omega arith); opened = refl }

-- where links are only handed some outputs and then only handed others, they are only handed all of these
pub hands_on : (x y z : LinksTold) (os ps : List Output) → HandsOnly x os y → HandsOnly y ps z → HandsOnly x (os ++ ps) z
hands_on x y z os ps v w = record {
  is_open = w.is_open ∙ v.is_open;
  plans = stays_on x.plans y.plans z.plans v.plans w.plans;
  asks = stays_at_on x.asks y.asks z.asks v.asks w.asks;
  waits = stays_on x.waits y.waits z.waits v.waits w.waits;
  given = stays_on x.given y.given z.given v.given w.given;
  handed = hands_more x.handed y.handed z.handed x.faults y.faults z.faults os ps v.handed w.handed;
  opened = w.opened ∙ v.opened;
}

-- one send
pub one_sent : (x y : LinksTold) (s : Sent) (o : Output) → y.is_open ≡ x.is_open → Stays x.plans y.plans → StaysAt x.asks y.asks → Stays x.waits y.waits → Stays x.given y.given → Hands x.handed y.handed s o → y.opened ≡ x.opened → IsAnswer o s x.faults y.faults → x.faults ≤ y.faults → HandsOnly x (o ∷ []) y
one_sent x y s o is p a w g h n i l = record { is_open = is; plans = p; asks = a; waits = w; given = g; handed = handed_alone x.handed y.handed x.faults y.faults o (handed_one x.handed y.handed x.faults y.faults s o h i l); opened = n }

-- ---- turns

-- one more turn
pub tells_more : (wait : ℕ) (a b c : Told) (ts : List Turn) (t : Turn) → TellsTurns wait a ts b → TellsTurn wait b t c → TellsTurns wait a (ts ++ t ∷ []) c
tells_more wait a b c [] t p q = (c, subst (λ x. TellsTurn wait x t c) p q, refl)
tells_more wait a b c (u ∷ ts) t p q = (p.0, p.1, tells_more wait p.0 b c ts t p.2 q)
