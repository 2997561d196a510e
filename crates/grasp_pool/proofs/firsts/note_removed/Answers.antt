use Rattle.std.proofs.Common.{rules, ◌≡◌, ℕ, ◌-◌, ◌<◌, ◌≤◌, ◌∷◌, inl, inr, length, slice_index_or, Option, Some, sym, ◌∙◌, subst, arith, get_or-set_same, get_or-set_other}
use Rattle.std.proofs.lemmas.Bool.{cases_lt, cases_eq}
use Rattle.std.proofs.lemmas.List.{get_or_default}
use Rattle.grasp_types.specs.Prefix.{AddressBlock as Prefix}
use Rattle.grasp_pool.specs.Parts.{IsFirstOf}
use Rattle.grasp_pool.proofs.Meeting.{false_misses}
use Rattle.grasp_pool.proofs.Indexing.{kept_first, next_first}
use Rattle.grasp_pool.proofs.firsts.note_removed.Goals as goal

pub loop-n-preserved-then-is_it : goal.loop-n-preserved-then-is_it
loop-n-preserved-then-is_it c =
    let es = c.args.entries.now
    in let p = c.args.prefix
    in let m : ℕ = c.loop-n.n - 1
    in let some : 0 < c.loop-n.n = c.loop-n-test.true
    in let bound : c.loop-n.n ≤ 129 = c.loop-n.invariant.bound
    in let size : length c.loop-n.firsts.items ≡ 129 = c.loop-n.invariant.size
    in let far : c.loop-n.at ≤ c.next_short-at.result = c.next_short-at.ensures.from
    in let was : slice_index_or c.args.firsts.now.items m c.index.result.now ≡ Some p
    = sym (c.loop-n.invariant.rest m c.index.result.now (omega arith)) ∙ sym c.index.ensures ∙ c.is_it.ensures.0 c.if-is_it.true
    in let first : IsFirstOf (p ∷ es) m (Some p) = subst (λ (o : Option Prefix). IsFirstOf (p ∷ es) m o) was (c.requires.index.firsts m c.index.result.now (omega arith))
    in let passed : (k : ℕ) (d : Prefix) → c.args.from ≤ k → k < c.next_short-at.result → m < (slice_index_or es k d).length
    = λ k d le lt. elim (cases_lt k c.loop-n.at) [
      | inl lt' ↦ let l : c.loop-n.n ≤ (slice_index_or es k d).length = c.loop-n.invariant.passed k d le lt' in omega arith
      | inr le' ↦ c.next_short-at.ensures.passed k d le' lt
    ]
    in record {
      bound = omega arith;
      size = search rules;
      from = let f : c.args.from ≤ c.loop-n.at = c.loop-n.invariant.from in omega arith;
      within = c.next_short-at.ensures.within;
      passed = λ k d le lt. let l : m < (slice_index_or es k d).length = passed k d le lt in omega arith;
      done = λ k d le lt. elim (cases_eq k m) [
        | inl e ↦ subst (λ (i : ℕ). IsFirstOf es i (slice_index_or (Rattle.std.proofs.Common.set c.loop-n.firsts.items m c.entry_at.result) i d)) (sym e)
            (subst (λ (o : Option Prefix). IsFirstOf es m o) (sym (get_or-set_same c.loop-n.firsts.items m c.entry_at.result d (omega arith)))
            (next_first es p c.args.from c.next_short-at.result m c.requires.rising c.requires.below first passed c.next_short-at.ensures.found c.entry_at.result c.entry_at.ensures))
        | inr ne ↦ subst (λ (o : Option Prefix). IsFirstOf es k o) (sym (get_or-set_other c.loop-n.firsts.items m k c.entry_at.result d ne)) (c.loop-n.invariant.done k d (grind arith) lt)
      ];
      rest = λ k d lt. get_or-set_other c.loop-n.firsts.items m k c.entry_at.result d (λ e. omega arith) ∙ c.loop-n.invariant.rest k d (omega arith);
    }

pub loop-n-preserved : goal.loop-n-preserved
loop-n-preserved c =
    let es = c.args.entries.now
    in let p = c.args.prefix
    in let m : ℕ = c.loop-n.n - 1
    in let some : 0 < c.loop-n.n = c.loop-n-test.true
    in let bound : c.loop-n.n ≤ 129 = c.loop-n.invariant.bound
    in record {
      bound = omega arith;
      size = c.loop-n.invariant.size;
      from = c.loop-n.invariant.from;
      within = c.loop-n.invariant.within;
      passed = λ k d le lt. let l : c.loop-n.n ≤ (slice_index_or es k d).length = c.loop-n.invariant.passed k d le lt in omega arith;
      done = λ k d le lt. elim (cases_eq k m) [
        | inl e ↦
            let o : Option Prefix = slice_index_or c.loop-n.firsts.items m d
            in let first : IsFirstOf (p ∷ es) m o = subst (λ (x : Option Prefix). IsFirstOf (p ∷ es) m x) (sym (c.loop-n.invariant.rest m d (omega arith))) (c.requires.index.firsts m d (omega arith))
            in subst (λ (i : ℕ). IsFirstOf es i (slice_index_or c.loop-n.firsts.items i d)) (sym e)
            (kept_first es p m o first (λ same. false_misses c.is_it.result c.if-is_it.false
            (c.is_it.ensures.1 (c.index.ensures ∙ get_or_default c.loop-n.firsts.items m c.index.result.now d (search rules) ∙ same))))
        | inr ne ↦ c.loop-n.invariant.done k d (grind arith) lt
      ];
      rest = λ k d lt. c.loop-n.invariant.rest k d (omega arith);
    }
