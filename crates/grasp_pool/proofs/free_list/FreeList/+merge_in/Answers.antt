use Rattle.std.proofs.Common.{◌≡◌, ◌+◌, ◌≤◌, ◌∙◌, List, Contains, ap, arith, length, subst, sym}
use Rattle.grasp_types.specs.Prefix.{AddressBlock as Prefix}
use Rattle.grasp_pool.specs.Spans.{IsValid}
use Rattle.grasp_pool.specs.Canonical.{IsTidy}
use Rattle.grasp_pool.specs.Functions.{add, without, parent_of, buddy_of}
use Rattle.grasp_pool.specs.Parts.{ApartFrom}
use Rattle.grasp_pool.proofs.Words.{IsJoined}
use Rattle.grasp_pool.proofs.Cleaning.{new_address}
use Rattle.grasp_pool.proofs.Equal.{merge_on, merge_none}
use Rattle.grasp_pool.proofs.Growing.{joins_on}
use Rattle.grasp_pool.proofs.free_list.FreeList.+merge_in.Goals as goal

pub merge_in-requires : goal.merge_in-requires
merge_in-requires t c =
    let j : IsJoined c.args.self.now c.args.prefix (without (buddy_of c.args.prefix).address c.args.self.now) (parent_of c.args.prefix)
    = joins_on c.args.prefix c.args.self.now c.requires.tidy c.requires.valid c.requires.apart c.in-Some.ensures.joined.0
    in let e = sym c.in-Some.ensures.joined.1
    in let f = sym c.in-Some.ensures.joined.2
    in let fewer : length c.join_buddy.new.self + 1 ≡ length c.args.self.now = ap (λ (xs : List Prefix). length xs + 1) c.in-Some.ensures.joined.2 ∙ j.fewer
    in let room : length c.args.self.now + 1 ≤ 4096 = c.requires.room
    in let shorter : c.in-Some.parent.length + 1 ≡ c.args.prefix.length = ap (λ (p : Prefix). p.length + 1) c.in-Some.ensures.joined.1 ∙ j.shorter
    in let apart : ApartFrom c.join_buddy.new.self c.in-Some.parent
    = subst (λ (p : Prefix). ApartFrom c.join_buddy.new.self p) e (subst (λ (xs : List Prefix). ApartFrom xs (parent_of c.args.prefix)) f j.apart)
    in (omega arith, (subst IsTidy f j.tidy, (omega arith, (subst IsValid e j.valid, apart))))

pub insert-requires-clause-is_new : goal.insert-requires-clause-is_new
insert-requires-clause-is_new t c =
    subst (λ (xs : List Prefix). (q : Prefix) → Contains xs q → ¬ (q.address ≡ c.args.prefix.address)) (sym c.in-None.ensures.alone.1) (new_address c.args.self.now c.args.prefix c.requires.apart)

pub returns-in-Some : goal.returns-in-Some
returns-in-Some t c =
    let j : IsJoined c.args.self.now c.args.prefix (without (buddy_of c.args.prefix).address c.args.self.now) (parent_of c.args.prefix)
    = joins_on c.args.prefix c.args.self.now c.requires.tidy c.requires.valid c.requires.apart c.in-Some.ensures.joined.0
    in let shorter : c.in-Some.parent.length + 1 ≡ c.args.prefix.length = ap (λ (p : Prefix). p.length + 1) c.in-Some.ensures.joined.1 ∙ j.shorter
    in merge_on c.args.prefix.length c.in-Some.parent.length c.args.prefix c.in-Some.parent c.args.self.now c.join_buddy.new.self c.merge_in.new.self
    shorter c.in-Some.ensures.joined.0 c.in-Some.ensures.joined.1 c.in-Some.ensures.joined.2 c.merge_in.ensures

pub returns-in-None : goal.returns-in-None
returns-in-None t c = c.insert.ensures ∙ ap (λ (xs : List Prefix). add c.args.prefix xs) c.in-None.ensures.alone.1
    ∙ sym (merge_none c.args.prefix.length c.args.prefix c.args.self.now c.in-None.ensures.alone.0)
