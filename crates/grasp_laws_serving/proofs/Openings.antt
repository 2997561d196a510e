-- The opening calls of a node that serves: those of the agent of prefixes are the ones with which a life in a network begins, and the others' are fit.
use Rattle.std.proofs.Common.{◌≡◌, ◌≢◌, refl, sym, ap, ◌∙◌, subst, arith, ℕ, ◌+◌, ◌≤◌, ◌++◌, true, false, map, List, [], ◌∷◌, length}
use borrow.Author.Tests.{eqb-true}
use Rattle.std.proofs.lemmas.Bool.{false≢true}
use Rattle.std.specs.List.{AllByRecursion}
use Rattle.grasp_agent.specs.Calls.{next_call}
use Rattle.grasp_agent.specs.Replies.{after_reply}
use Rattle.grasp_crew.specs.Nudges.{wanted_of}
use Rattle.grasp_crew.specs.Steward.{StewardState, first_steward, steward_after}
use Rattle.grasp_crew.specs.declared.servant.Servant.{Servant}
use Rattle.grasp_crew.specs.declared.servant.Servant.TheVariants.{Steward}
use Rattle.grasp_crew.specs.declared.trying.Pace.{Pace}
use Rattle.grasp_laws_serving.proofs.Agents.{AreWants, IsCrew, IsOther, IsOtherEntry, opening_others}
use Rattle.grasp_laws_serving.proofs.Happenings.{all_append, all_first, all_last}
use Rattle.grasp_laws_serving.proofs.Numbers.{GivesOthers}
use Rattle.grasp_laws_serving.proofs.Seats.{AllGive}
use Rattle.grasp_laws_serving.specs.Acts.{IsHeraldInRange}
use Rattle.grasp_laws_serving.specs.Lives.{other_openings, others_of}
use Rattle.grasp_node_main.specs.Openings.{opened_agent, openings}
use Rattle.grasp_node_main.specs.declared.want_plan.WantPlan.{WantPlan}
use Rattle.grasp_pool.specs.Holdings.{Holding}
use Rattle.grasp_service.specs.Openings.{IsOpening, OpensFrom, is_done, is_first_asa, is_not_yet, opened, opening_calls}
use Rattle.grasp_service.specs.Plans.{crew_of, heralds_from, listeners_from}
use Rattle.grasp_service.specs.Served.{IsOpened, all_opening_calls}
use Rattle.grasp_service.specs.declared.plan.HeraldPlan.{HeraldPlan}
use Rattle.grasp_service.specs.declared.plan.ServicePlan.{ServicePlan}
use Rattle.grasp_service_visits.specs.Each.{Each, each_adds, each_after}
use Rattle.grasp_shared.specs.History.{Entry, History}
use Rattle.grasp_types.specs.declared.reply.ApiAnswer.{ApiAnswer}
use Rattle.grasp_types.specs.declared.reply.ApiAnswer.TheVariants as answer
use Rattle.grasp_types.specs.declared.reply.Reply.{Reply}
use Rattle.grasp_types.specs.declared.reply.Reply.TheVariants as reply

-- ---- the agent of prefixes

first_asa : (r : Reply) → is_first_asa r ≡ true → r ≡ reply.Api (answer.Asa 1)
first_asa (reply.Api a) e = by_answer a e where
  by_answer : (a : ApiAnswer) → is_first_asa (reply.Api a) ≡ true → reply.Api a ≡ reply.Api (answer.Asa 1)
  by_answer (answer.Asa n) e = ap (λ (k : ℕ). reply.Api (answer.Asa k)) (eqb-true n 1 e)
  by_answer _ e = absurd (false≢true e)
first_asa _ e = absurd (false≢true e)

done : (r : Reply) → is_done r ≡ true → r ≡ reply.Api answer.Done
done (reply.Api a) e = by_answer a e where
  by_answer : (a : ApiAnswer) → is_done (reply.Api a) ≡ true → reply.Api a ≡ reply.Api answer.Done
  by_answer answer.Done e = refl
  by_answer _ e = absurd (false≢true e)
done _ e = absurd (false≢true e)

not_yet : (r : Reply) → is_not_yet r ≡ true → r ≡ reply.Api answer.NotYet
not_yet (reply.Api a) e = by_answer a e where
  by_answer : (a : ApiAnswer) → is_not_yet (reply.Api a) ≡ true → reply.Api a ≡ reply.Api answer.NotYet
  by_answer answer.NotYet e = refl
  by_answer _ e = absurd (false≢true e)
not_yet _ e = absurd (false≢true e)

-- what its opening calls are answered
abbrev pub opening_replies : List Reply
opening_replies = reply.Api (answer.Asa 1) ∷ reply.Api answer.Done ∷ reply.Api answer.NotYet ∷ []

replies_are : (rs : List Reply) → length rs ≡ 3 → OpensFrom true 0 rs → rs ≡ opening_replies
replies_are [] n o = absurd (omega (arith, n))
replies_are (a ∷ []) n o = absurd (omega (arith, n))
replies_are (a ∷ b ∷ []) n o = absurd (omega (arith, n))
replies_are (a ∷ b ∷ c ∷ []) n o =
    ap (λ (r : Reply). r ∷ b ∷ c ∷ []) (first_asa a o.0)
    ∙ (ap (λ (r : Reply). reply.Api (answer.Asa 1) ∷ r ∷ c ∷ []) (done b o.1.0)
    ∙ ap (λ (r : Reply). reply.Api (answer.Asa 1) ∷ reply.Api answer.Done ∷ r ∷ []) (not_yet c o.1.1.0))
replies_are (a ∷ b ∷ c ∷ d ∷ rs) n o = absurd (omega (arith, n))

calls_are : (pool : Holding) (wants : List WantPlan) (pace : Pace) → opening_calls 1 (Steward (first_steward pool wants pace)) opening_replies ≡ openings
unfolding next_call after_reply steward_after
calls_are pool wants pace = refl

-- the agent once it is opened
pub record IsOpenedAs (pool : Holding) (wants : List WantPlan) (s : Servant) : Type 0 where
  pub steward : StewardState
  pub is : s ≡ Steward steward
  pub agent : steward.agent ≡ opened_agent pool
  pub wants_are : steward.wants ≡ map wanted_of wants

steward_opened : (pool : Holding) (wants : List WantPlan) (pace : Pace) → IsOpenedAs pool wants (opened (Steward (first_steward pool wants pace)) opening_replies)
unfolding next_call after_reply steward_after
steward_opened pool wants pace = record {
  steward =
      steward_after 0 (steward_after 0 (steward_after 0 (first_steward pool wants pace) (reply.Api (answer.Asa 1))) (reply.Api answer.Done)) (reply.Api answer.NotYet);
  is = refl;
  agent = refl;
  wants_are = refl;
}

-- ---- the others

unnumbered : (n : ℕ) → n ≡ 0 → n ≢ 1
unnumbered n is one = omega (arith, is, one)

all_heralds : (number : ℕ) (bs : List HeraldPlan) → AllByRecursion IsHeraldInRange bs → AllByRecursion IsOther (heralds_from number bs)
all_heralds number [] h = tt
all_heralds number (b ∷ bs) h = (record { number = unnumbered 0 refl; ranges = (h.0.name, h.0.value, h.0.ttl, h.0.loops) }, all_heralds (number + 1) bs h.1)

all_listeners : (number : ℕ) (names : List (List ℕ)) → AllByRecursion IsOther (listeners_from number names)
all_listeners number [] = tt
all_listeners number (name ∷ names) = (unnumbered 0 refl, all_listeners (number + 1) names)

others_are : (p : ServicePlan) → AllByRecursion IsHeraldInRange p.heralds → AllByRecursion IsOther (others_of p)
others_are p fit = all_append IsOther (heralds_from 1 p.heralds) (listeners_from 1 p.readers) (all_heralds 1 p.heralds fit) (all_listeners 1 p.readers)

openings_others : (crew : List Servant) (rss : List (List Reply)) (caller : ℕ) → 2 ≤ caller → AllByRecursion IsOther crew → AllGive (each_adds opening_calls caller crew rss)
    → AllByRecursion IsOtherEntry (each_adds opening_calls caller crew rss) × AllByRecursion IsOther (each_after opened crew rss)
openings_others [] rss caller most h give = (tt, tt)
openings_others (m ∷ crew) [] caller most h give = (tt, h)
openings_others (m ∷ crew) (rs ∷ rss) caller most h give =
    let first : History = opening_calls caller m rs in
    let rest : History = each_adds opening_calls (caller + 1) crew rss in
    let f = opening_others caller m rs most h.0 (all_first (λ (e : Entry). GivesOthers e.reply) first rest give) in
    let g = openings_others crew rss (caller + 1) (omega (arith, most)) h.1 (all_last (λ (e : Entry). GivesOthers e.reply) first rest give) in
    (all_append IsOtherEntry first rest f.0 g.0, (f.1, g.1))

-- a planned want asks for a prefix, as its type has it
wants_are_wants : (ws : List WantPlan) → AreWants (map wanted_of ws)
wants_are_wants [] = tt
wants_are_wants (w ∷ ws) = (record { least = w.least; rising = w.ordered; most = w.most }, wants_are_wants ws)

-- ---- all of them

-- the agent of prefixes of a node that begins with this pool, and all its agents
abbrev pub first_of : ServicePlan → Holding → Servant
first_of p pool = Steward (first_steward pool p.wants p.pace)

abbrev pub crew_at : ServicePlan → Holding → List Servant
crew_at p pool = first_of p pool ∷ others_of p

-- the opening calls are those of the agent of prefixes, and then the others'
pub openings_first : (p : ServicePlan) (pool : Holding) (rs : List Reply) (rss : List (List Reply)) → crew_of p ≡ crew_at p pool → IsOpening (first_of p pool) rs
    → all_opening_calls p (rs ∷ rss) ≡ openings ++ other_openings p (rs ∷ rss)
openings_first p pool rs rss begins o =
    ap (λ (crew : List Servant). each_adds opening_calls 1 crew (rs ∷ rss)) begins
    ∙ ap (λ (h : History). h ++ other_openings p (rs ∷ rss))
    (ap (λ (x : List Reply). opening_calls 1 (first_of p pool) x) (replies_are rs o.count o.opens) ∙ calls_are pool p.wants p.pace)

-- behind them the agents are so, and the others' calls are fit
pub record Begun (p : ServicePlan) (pool : Holding) (replies : List (List Reply)) : Type 0 where
  pub others : AllByRecursion IsOtherEntry (other_openings p replies)
  pub crew : IsCrew (opened_agent pool) (each_after opened (crew_of p) replies)

pub begun : (p : ServicePlan) (pool : Holding) (rs : List Reply) (rss : List (List Reply)) → crew_of p ≡ crew_at p pool → AllByRecursion IsHeraldInRange p.heralds
    → IsOpening (first_of p pool) rs → AllGive (other_openings p (rs ∷ rss)) → Begun p pool (rs ∷ rss)
begun p pool rs rss begins fit o give = record {
  others = all.0;
  crew =
      subst (λ (crew : List Servant). IsCrew (opened_agent pool) (each_after opened crew (rs ∷ rss))) (sym begins)
      (from (subst (λ (x : List Reply). IsOpenedAs pool p.wants (opened (first_of p pool) x)) (sym (replies_are rs o.count o.opens)) (steward_opened pool p.wants p.pace)));
} where
  all : AllByRecursion IsOtherEntry (each_adds opening_calls 2 (others_of p) rss) × AllByRecursion IsOther (each_after opened (others_of p) rss)
  all = openings_others (others_of p) rss 2 (omega arith) (others_are p fit) give

  from : IsOpenedAs pool p.wants (opened (first_of p pool) rs) → IsCrew (opened_agent pool) (opened (first_of p pool) rs ∷ each_after opened (others_of p) rss)
  from f =
      subst (λ (s : Servant). IsCrew (opened_agent pool) (s ∷ each_after opened (others_of p) rss)) (sym f.is)
      (f.agent, subst AreWants (sym f.wants_are) (wants_are_wants p.wants), all.1)

-- an opening has replies to the agent of prefixes
pub record Replied (p : ServicePlan) (pool : Holding) (replies : List (List Reply)) : Type 0 where
  pub first : List Reply
  pub rest : List (List Reply)
  pub are : replies ≡ first ∷ rest
  pub opens : IsOpening (first_of p pool) first

replied_at : (p : ServicePlan) (pool : Holding) (replies : List (List Reply)) → length replies ≡ length (crew_at p pool) → Each IsOpening (crew_at p pool) replies → Replied p pool replies
replied_at p pool [] count each = absurd (omega (arith, count))
replied_at p pool (rs ∷ rss) count each = record { first = rs; rest = rss; are = refl; opens = each.0 }

pub replied : (p : ServicePlan) (pool : Holding) (replies : List (List Reply)) → crew_of p ≡ crew_at p pool → IsOpened p replies → Replied p pool replies
replied p pool replies begins o =
    replied_at p pool replies (o.count ∙ ap (λ (crew : List Servant). length crew) begins) (subst (λ (crew : List Servant). Each IsOpening crew replies) begins o.each)
