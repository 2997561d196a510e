-- Lives: what happened at a node that served is its history, acts of a member of a network, and fit for it.
use Rattle.std.proofs.Common.{◌≡◌, refl, sym, ap, ◌∙◌, subst, ◌++◌, append_assoc, List, [], ◌∷◌}
use Rattle.std.proofs.lemmas.List.{append-nil}
use Rattle.std.specs.List.{AllByRecursion}
use Rattle.grasp_agent.specs.States.{AgentState}
use Rattle.grasp_desk.specs.declared.desk.DeskPlan.{DeskPlan}
use Rattle.grasp_io.specs.declared.links.LinkPlan.{LinkPlan}
use Rattle.grasp_laws_members.specs.Acts.{AreActs}
use Rattle.grasp_laws_serving.proofs.Agents.{Gives, IsFit, Part, part_append, part_others}
use Rattle.grasp_laws_serving.proofs.Happenings.{AreOwn, Made, all_first, all_last, calls_append, calls_called, legal_first, legal_last, made, own_first}
use Rattle.grasp_laws_serving.proofs.Numbers.{GivesOthers, HasSome, all_give, opened_has}
use Rattle.grasp_laws_serving.proofs.Openings.{Begun, Replied, begun, crew_at, openings_first, replied}
use Rattle.grasp_laws_serving.proofs.Rounds.{AreLoops, Went, calls_give, loops_others, rounds_calls_are, rounds_went, turn_loops}
use Rattle.grasp_laws_serving.proofs.Seats.{AllGive}
use Rattle.grasp_laws_serving.specs.Acts.{HadMemory, IsHeraldInRange, LinksGiveNoCall}
use Rattle.grasp_laws_serving.specs.Histories.{HistoriesHappened, ServicesHaveActs}
use Rattle.grasp_laws_serving.specs.Lives.{Happening, HasServed, Life, all_called, called, calls_in, cut_short, life_happens, life_of, other_openings, rounds_happen, to_its_end, told}
use Rattle.grasp_model_network.specs.Openings.{opened_seat}
use Rattle.grasp_model_network.specs.World.{Seat}
use Rattle.grasp_model_node.specs.Node.{NodeState, first_node}
use Rattle.grasp_model_node.specs.declared.plan.NodePlan.{NodePlan}
use Rattle.grasp_node_main.specs.Networks.{NodesOpenAsSeats}
use Rattle.grasp_node_main.specs.Openings.{opened_agent, openings}
use Rattle.grasp_pool.specs.Functions.{pool_of}
use Rattle.grasp_pool.specs.Holdings.{Holding}
use Rattle.grasp_pool.specs.declared.roots.RootPrefix.{RootPrefix}
use Rattle.grasp_service.specs.Plans.{crew_of}
use Rattle.grasp_service.specs.Rounds.{AreRounds, Outside, TellsRounds, all_round_calls, rounds_after}
use Rattle.grasp_service.specs.Served.{IsOpened, all_opening_calls, opened_state}
use Rattle.grasp_service.specs.declared.plan.ServicePlan.{ServicePlan}
use Rattle.grasp_shared.specs.History.{Entry, History, IsLegalHistory}
use Rattle.grasp_types.specs.declared.reply.Reply.{Reply}

-- ---- what is known of a life

-- the whole history of a life, and what its last round was cut short in
abbrev pub life_history : ServicePlan → Life → History → History
life_history p l rest = all_opening_calls p l.replies ++ (all_round_calls (opened_state p l.replies) l.rounds ++ (l.ends ++ rest))

pub record Lived (p : ServicePlan) (l : Life) : Type 0 where
  pub opened : IsOpened p l.replies
  pub are : AreRounds (opened_state p l.replies) l.rounds
  pub ready : Outside
  pub middle : Outside
  pub tells : TellsRounds ready (opened_state p l.replies) l.rounds middle
  pub loops : AreLoops l.ends
  pub rest : History
  pub to : NodeState
  pub legal : IsLegalHistory (first_node p.node) (life_history p l rest) to

pub lived : (p : ServicePlan) (joining : LinkPlan) (doors : DeskPlan) (before after : Outside) (served : HasServed p joining doors before after) → Lived p (life_of p joining doors before after served)
lived p joining doors before after (to_its_end s) = record {
  opened = s.opened;
  are = s.are;
  ready = s.ready;
  middle = s.middle;
  tells = s.tells;
  loops = (refl, tt);
  rest = [];
  to = s.to;
  legal = s.legal;
}
lived p joining doors before after (cut_short f) = record {
  opened = f.opened;
  are = f.are;
  ready = f.ready;
  middle = f.middle;
  tells = f.tells;
  loops = turn_loops f.turn;
  rest = f.rest;
  to = f.to;
  legal = f.legal;
}

-- ---- its history

life_calls_are : (p : ServicePlan) (l : Life) → calls_in (life_happens p l) ≡ other_openings p l.replies ++ (all_round_calls (opened_state p l.replies) l.rounds ++ l.ends)
life_calls_are p l =
    let first : History = other_openings p l.replies in
    let rounds : List Happening = rounds_happen (opened_state p l.replies) l.rounds in
    calls_append (all_called first) (rounds ++ all_called l.ends)
    ∙ (ap (λ (h : History). h ++ calls_in (rounds ++ all_called l.ends)) (calls_called first)
    ∙ ap (λ (h : History). first ++ h)
    (calls_append rounds (all_called l.ends)
    ∙ (ap (λ (h : History). h ++ calls_in (all_called l.ends)) (rounds_calls_are l.rounds (opened_state p l.replies))
    ∙ ap (λ (h : History). all_round_calls (opened_state p l.replies) l.rounds ++ h) (calls_called l.ends))))

moved : (a b x e r : History) → (a ++ b) ++ (x ++ (e ++ r)) ≡ a ++ ((b ++ (x ++ e)) ++ r)
moved a b x e r =
    append_assoc a b (x ++ (e ++ r))
    ∙ ap (λ (h : History). a ++ h) (ap (λ (h : History). b ++ h) (sym (append_assoc x e r)) ∙ sym (append_assoc b (x ++ e) r))

life_is : (p : ServicePlan) (pool : Holding) (l : Life) (rest : History) → crew_of p ≡ crew_at p pool → IsOpened p l.replies → life_history p l rest ≡ openings ++ (calls_in (life_happens p l) ++ rest)
life_is p pool l rest begins o = from (replied p pool l.replies begins o) where
  from : Replied p pool l.replies → life_history p l rest ≡ openings ++ (calls_in (life_happens p l) ++ rest)
  from r =
      ap (λ (h : History). h ++ (all_round_calls (opened_state p l.replies) l.rounds ++ (l.ends ++ rest)))
      (ap (all_opening_calls p) r.are ∙ (openings_first p pool r.first r.rest begins r.opens ∙ ap (λ (x : List (List Reply)). openings ++ other_openings p x) (sym r.are)))
      ∙ (moved openings (other_openings p l.replies) (all_round_calls (opened_state p l.replies) l.rounds) l.ends rest
      ∙ ap (λ (h : History). openings ++ (h ++ rest)) (sym (life_calls_are p l)))

pub histories_happened : HistoriesHappened
histories_happened = record {
  whole = λ p joining doors before after s begins.
      life_is p (pool_of p.roots) (life_of p joining doors before after (to_its_end s)) [] begins s.opened
      ∙ ap (λ (h : History). openings ++ h) (append-nil (calls_in (life_happens p (life_of p joining doors before after (to_its_end s)))));
  short = λ p joining doors before after f begins. life_is p (pool_of p.roots) (life_of p joining doors before after (cut_short f)) f.rest begins f.opened;
}

-- ---- it is fit, and happened to the agent of prefixes

happenings_give : (hs : List Happening) → AllGive (calls_in hs) → AllByRecursion Gives hs
happenings_give [] give = tt
happenings_give (called e ∷ hs) give = (give.0, happenings_give hs give.1)
happenings_give (told w ∷ hs) give = (tt, happenings_give hs give)

-- of a node whose agent of prefixes began with this pool
module _ (seated : NodesOpenAsSeats) (p : ServicePlan) (pool : Holding) (l : Life) (h : Lived p l) (begins : crew_of p ≡ crew_at p pool) (heralds : AllByRecursion IsHeraldInRange p.heralds)
    (links : LinksGiveNoCall l) where
  abbrev happened : List Happening
  happened = life_happens p l

  abbrev a : AgentState
  a = opened_agent pool

  -- the node once its agent of prefixes was opened, from which the rest is legal
  pub record Behind : Type 0 where
    pub node : NodeState
    pub opening : IsLegalHistory (first_node p.node) openings node
    pub legal : IsLegalHistory node (calls_in happened ++ h.rest) h.to

  pub behind : Behind
  behind = from (legal_last openings (calls_in happened ++ h.rest) (first_node p.node) h.to (subst (λ (x : History). IsLegalHistory (first_node p.node) x h.to) (life_is p pool l h.rest begins h.opened) h.legal)) where
    from : (mid : NodeState) × IsLegalHistory (first_node p.node) openings mid × IsLegalHistory mid (calls_in happened ++ h.rest) h.to → Behind
    from f = record { node = f.0; opening = f.1; legal = f.2 }

  has : HasSome behind.node
  has = subst (λ (y : Seat). HasSome y.core) (seated p.node pool behind.node behind.opening) (opened_has p.node pool)

  give : AllByRecursion Gives happened
  give = happenings_give happened (all_first (λ (e : Entry). GivesOthers e.reply) (calls_in happened) h.rest (all_give (calls_in happened ++ h.rest) behind.node h.to behind.legal has))

  abbrev first : List Happening
  first = all_called (other_openings p l.replies)

  abbrev rounds : List Happening
  rounds = rounds_happen (opened_state p l.replies) l.rounds

  abbrev ends : List Happening
  ends = all_called l.ends

  give_first : AllGive (other_openings p l.replies)
  give_first = calls_give (other_openings p l.replies) (all_first Gives first (rounds ++ ends) give)

  pub give_rounds : AllByRecursion Gives (rounds_happen (opened_state p l.replies) l.rounds)
  give_rounds = all_first Gives rounds ends (all_last Gives first (rounds ++ ends) give)

  pub opened_crew : Begun p pool l.replies
  opened_crew = from (replied p pool l.replies begins h.opened) where
    from : Replied p pool l.replies → Begun p pool l.replies
    from r =
        subst (Begun p pool) (sym r.are)
        (begun p pool r.first r.rest begins heralds r.opens (subst (λ (x : List (List Reply)). AllGive (other_openings p x)) r.are give_first))

  pub went : Went a rounds (rounds_after (opened_state p l.replies) l.rounds)
  went = rounds_went l.rounds a (opened_state p l.replies) h.ready h.middle (record { crew = opened_crew.crew; seats = tt }) h.are h.tells links.rounds give_rounds

  pub whole : Part a happened went.agent
  whole =
      part_append first a a went.agent (rounds ++ ends) (part_others (other_openings p l.replies) a opened_crew.others)
      (part_append rounds a went.agent went.agent ends went.part (part_others l.ends went.agent (loops_others l.ends h.loops links.ends)))

  module _ (front back : List Happening) (is : happened ≡ front ++ back) (fed : HadMemory front) where
    pub front_fit : AllByRecursion IsFit front
    front_fit = all_first IsFit front back (subst (AllByRecursion IsFit) is whole.fit)

    front_legal : (mid : NodeState) × IsLegalHistory behind.node (calls_in front) mid
    front_legal =
        legal_first (calls_in front) (calls_in back ++ h.rest) behind.node h.to
        (subst (λ (x : History). IsLegalHistory behind.node x h.to)
        (ap (λ (x : History). x ++ h.rest) (ap calls_in is ∙ calls_append front back) ∙ append_assoc (calls_in front) (calls_in back) h.rest) behind.legal)

    pub front_made : Made behind.node a front
    front_made = made front behind.node front_legal.0 a front_legal.1 fed (own_first front back a (subst (AreOwn a) is whole.goes.own))

    -- they may happen in a life that begins with the pool
    pub front_may : AreActs (opened_seat p.node pool).core (opened_seat p.node pool).agent front_made.acts
    front_may = subst (λ (y : Seat). AreActs y.core y.agent front_made.acts) (sym (seated p.node pool behind.node behind.opening)) front_made.may

pub services_have_acts : NodesOpenAsSeats → ServicesHaveActs
services_have_acts seated p joining doors before after served m node roots fit links front back is fed =
    let l : Life = life_of p joining doors before after served in
    let h : Lived p l = lived p joining doors before after served in
    record {
      acts = (front_made seated p (pool_of p.roots) l h fit.begins fit.heralds links front back is fed).acts;
      are = (front_made seated p (pool_of p.roots) l h fit.begins fit.heralds links front back is fed).are;
      may =
          subst (λ (y : Seat). AreActs y.core y.agent (front_made seated p (pool_of p.roots) l h fit.begins fit.heralds links front back is fed).acts)
          (ap (λ (n : NodePlan). opened_seat n (pool_of p.roots)) node ∙ ap (λ (rs : List RootPrefix). opened_seat m.plan (pool_of rs)) roots)
          (front_may seated p (pool_of p.roots) l h fit.begins fit.heralds links front back is fed);
    }
