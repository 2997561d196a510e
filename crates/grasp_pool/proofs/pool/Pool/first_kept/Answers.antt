use Rattle.std.proofs.Common.{subst, sym, inl, inr, ◌≡◌, List, ◌++◌, Option, ap, ◌∙◌}
use Rattle.grasp_types.specs.Prefix.{AddressBlock as Prefix}
use Rattle.grasp_pool.specs.Holdings.{Holding}
use Rattle.grasp_pool.specs.Parts.{ArePairwiseApart, IsAnswer, lesser_of}
use Rattle.grasp_pool.specs.Pools.{entries}
use Rattle.grasp_pool.proofs.Meeting.{lesser_answer}
use Rattle.grasp_pool.proofs.pool.Pool.first_kept.Goals as goal

pub first_overlap-free-requires-clause-apart : goal.first_overlap-free-requires-clause-apart
first_overlap-free-requires-clause-apart c = subst (λ (xs : List Prefix). ArePairwiseApart xs) (sym c.entries.ensures) c.self.invariant.pool.free.clean.apart

pub first_overlap-reserved-requires-clause-apart :
    goal.first_overlap-reserved-requires-clause-apart
first_overlap-reserved-requires-clause-apart c =
    subst (λ (xs : List Prefix). ArePairwiseApart xs) (sym c.deref.ensures.value) (λ p q h k ne. c.self.invariant.pool.apart p q ne (inl h) (inl k))

pub first_overlap-doubtful-requires-clause-apart :
    goal.first_overlap-doubtful-requires-clause-apart
first_overlap-doubtful-requires-clause-apart c =
    subst (λ (xs : List Prefix). ArePairwiseApart xs) (sym c.deref-2.ensures.value) (λ p q h k ne. c.self.invariant.pool.apart p q ne (inr h) (inr k))

pub returns-clause-first : goal.returns-clause-first
returns-clause-first c =
    let f = c.self.inside.free
    in let r = c.self.inside.reserved.items
    in let d = c.self.inside.doubtful.items
    in let x = c.first_overlap-free.result
    in let y = c.first_overlap-reserved.result
    in let z = c.first_overlap-doubtful.result
    in let p = c.args.prefix
    in let a : IsAnswer f p x = subst (λ (xs : List Prefix). IsAnswer xs p x) c.entries.ensures c.first_overlap-free.ensures
    in let b : IsAnswer r p y = subst (λ (xs : List Prefix). IsAnswer xs p y) c.deref.ensures.value c.first_overlap-reserved.ensures
    in let e : IsAnswer d p z = subst (λ (xs : List Prefix). IsAnswer xs p z) c.deref-2.ensures.value c.first_overlap-doubtful.ensures
    in let whole : IsAnswer ((f ++ r) ++ d) p (lesser_of (lesser_of x y) z) = lesser_answer (f ++ r) d p (lesser_of x y) z (lesser_answer f r p x y a b) e
    in let is : c.lesser-2.result ≡ lesser_of (lesser_of x y) z = c.lesser-2.ensures ∙ ap (λ (o : Option Prefix). lesser_of o z) c.lesser.ensures
    in subst (λ (h : Holding). IsAnswer (entries h) p c.lesser-2.result) c.self.view_is (subst (λ (o : Option Prefix). IsAnswer ((f ++ r) ++ d) p o) (sym is) whole)
