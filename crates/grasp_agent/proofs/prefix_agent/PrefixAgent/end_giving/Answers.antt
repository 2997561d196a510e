use Rattle.std.proofs.Common.{rules, ◌≡◌, ◌∙◌, ◌<◌, length, true, Some, None, sym, ap, subst, slice_get}
use Rattle.std.proofs.lemmas.Option.{slice_get_within}
use Rattle.grasp_agent.specs.Kept.{IsKept}
use Rattle.grasp_agent.specs.Replies.{after_giver_end}
use Rattle.grasp_agent.specs.States.{AgentState, is_open}
use Rattle.grasp_agent.specs.Stored.{state_of}
use Rattle.grasp_agent.proofs.Keeping.{offer_reserved, kept_giver_end}
use Rattle.grasp_agent.proofs.prefix_agent.PrefixAgent.end_giving.Goals as goal

pub settle_last-requires : goal.settle_last-requires
settle_last-requires c =
    let at : slice_get c.self.inside.giving.items c.args.place ≡ Some c.args.giving = ap (λ (x : AgentState). slice_get x.giving c.args.place) c.self.view_is ∙ c.requires.place
    in offer_reserved (state_of c.self.inside) c.args.place c.args.giving at c.self.invariant.kept

pub invariant_of-self : goal.invariant_of-self
invariant_of-self c =
    let s : AgentState = state_of c.self.inside
    in let at : slice_get s.giving c.args.place ≡ Some c.args.giving = ap (λ (x : AgentState). slice_get x.giving c.args.place) c.self.view_is ∙ c.requires.place
    in let none : s.act ≡ None = ap (λ (x : AgentState). x.act) c.self.view_is ∙ c.requires.none
    in let serves : is_open s.stage ≡ true = ap (λ (x : AgentState). is_open x.stage) c.self.view_is ∙ c.requires.serves
    in let e : ◌≡◌ {A = AgentState} (record s { pool = c.settle_last.new.pool; giving = c.remove-left.new.self.items }) (after_giver_end s c.args.place c.args.giving c.args.outcome.now)
    = λ i. record s { pool = c.settle_last.ensures i; giving = c.remove-left.ensures.by_index.2 i }
    in record {
      kept = subst IsKept (sym e) (kept_giver_end s c.args.place c.args.giving c.args.outcome.now none at serves c.self.invariant.kept);
      giving = search rules;
      cursor = c.self.invariant.cursor;
    }

pub remove-left-requires : goal.remove-left-requires
remove-left-requires c =
    let at : slice_get c.self.inside.giving.items c.args.place ≡ Some c.args.giving = ap (λ (x : AgentState). slice_get x.giving c.args.place) c.self.view_is ∙ c.requires.place
    in let within : c.args.place < length c.self.inside.giving.items = slice_get_within c.self.inside.giving.items c.args.place c.args.giving at
    in search rules
