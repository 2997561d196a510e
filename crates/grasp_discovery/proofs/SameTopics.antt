-- Two topics are equal exactly where they are one value.
use Rattle.std.specs.Bool.{Decides}
use Rattle.std.proofs.Common.{◌≡◌, true, sym, ap, ◌∙◌, rules}
use Rattle.grasp_discovery.specs.declared.topic.Topic.{Topic}
use Rattle.grasp_discovery.specs.Topic.{same_topic}

same_topic_means : (a b : Topic) → same_topic a b ≡ true → a ≡ b
same_topic_means a b e = search rules

same_topic_itself : (a : Topic) → same_topic a a ≡ true
same_topic_itself a = search rules

pub same_topic_decides : (a b : Topic) → Decides (same_topic a b) (a ≡ b)
same_topic_decides a b = (same_topic_means a b, λ e. ap (λ x. same_topic a x) (sym e) ∙ same_topic_itself a)
