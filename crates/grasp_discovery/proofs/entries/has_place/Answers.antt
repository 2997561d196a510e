use Rattle.std.proofs.Common.{◌||◌, nat_lt, length, sym, ap, ◌∙◌}
use Rattle.grasp_discovery.proofs.Cache.{has_topic_is}
use Rattle.grasp_discovery.proofs.entries.has_place.Goals as goal

pub returns-then-contains_key : goal.returns-then-contains_key
returns-then-contains_key c =
    c.if-contains_key.true ∙ sym (ap (λ b. b || nat_lt (length c.args.entries.now.entries) 128) (has_topic_is c.args.topic.now c.args.entries.now.entries _ c.contains_key.ensures ∙ c.if-contains_key.true))

pub returns-else-contains_key : goal.returns-else-contains_key
returns-else-contains_key c =
    rw c.len.ensures.len (sym (ap (λ b. b || nat_lt (length c.args.entries.now.entries) 128) (has_topic_is c.args.topic.now c.args.entries.now.entries _ c.contains_key.ensures ∙ c.if-contains_key.false)))
