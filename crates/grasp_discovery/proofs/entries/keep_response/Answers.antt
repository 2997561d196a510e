use Rattle.std.proofs.Common.{◌≡◌, sym, ap, ◌∙◌, subst}
use Rattle.grasp_discovery.specs.Discoveries.{IsCache, put_entry, after_response}
use Rattle.grasp_discovery.proofs.Cache.{insert_entry_put, no_place, placed}
use Rattle.grasp_discovery.proofs.Soundness.{cache_response}
use Rattle.grasp_discovery.proofs.entries.keep_response.Goals as goal

pub returns-then-not-has_place-clause-ok : goal.returns-then-not-has_place-clause-ok
returns-then-not-has_place-clause-ok c = no_place c.args.entries.now.entries c.args.topic c.args.end c.args.locators.now (sym c.has_place.ensures ∙ c.if-not-has_place.true)

-- what is kept
kept : (c : goal.Joined-branch-3) → c.insert.new.self.entries ≡ after_response c.args.entries.now.entries c.args.topic c.args.end c.args.locators.now
kept c =
    c.in_ok-insert.ensures.entries
    ∙ insert_entry_put c.args.entries.now.entries c.args.topic c.in_ok-cached.cached
    ∙ ap (λ cs. put_entry c.args.topic cs c.args.entries.now.entries) c.in_ok-cached.ensures.ok
    ∙ placed c.args.entries.now.entries c.args.topic c.args.end c.args.locators.now (sym c.has_place.ensures ∙ c.if-not-has_place.false)

pub returns-clause-ok : goal.returns-clause-ok
returns-clause-ok c = kept c

pub returns-clause-sound : goal.returns-clause-sound
returns-clause-sound c = λ h. subst IsCache (sym (kept c)) (cache_response c.args.entries.now.entries c.args.topic c.args.end c.args.locators.now c.in_ok-cached.ensures.some h)
