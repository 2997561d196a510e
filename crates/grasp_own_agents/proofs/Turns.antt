-- Rounds, one after the other, from the opening to the end.
use Rattle.std.proofs.Common.{◌≡◌, ℕ, ◌+◌, suc, Option, List, [], ◌∷◌, ◌++◌, length, refl, sym, ap, ◌∙◌, subst, arith}
use Rattle.std.specs.List.{AllByRecursion}
use Rattle.grasp_agent.specs.declared.agent.Agent.{Ghosts}
use Rattle.grasp_core.specs.declared.node_core.NodeCore.{NodeCore}
use Rattle.grasp_io.specs.declared.links.LinkPlan.{LinkPlan}
use Rattle.grasp_node_main.specs.Tells.{LinksTold, Told, told}
use Rattle.grasp_node_main.specs.Turns.{turn_calls, loop_call}
use Rattle.grasp_own_agents.specs.Acting.{ActsAll, all_agent_calls, all_after}
use Rattle.grasp_own_agents.specs.Running.{OpensLinks, Exchanged, Drained, Round, Opened, Went, RanOpen, Ran, after_openings, after_rounds, round_calls, opening_calls, reading_of}
use Rattle.grasp_service_visits.proofs.Each.{after_length}
use Rattle.grasp_service_visits.specs.Calling.{GoesSome}
use Rattle.grasp_shared.proofs.Adding.{adds_on, adds_nothing}
use Rattle.grasp_shared.specs.Adding.{Adds}
use Rattle.grasp_types.specs.declared.reply.Reply.{Reply}
use Rattle.grasp_types.specs.declared.traffic.Input.TheVariants as input

module _ {A : Type 0} (agent : Ghosts A) where
  -- as many agents as before
  openings_length : (agents : List A) (rss : List (List Reply)) → length (after_openings agent agents rss) ≡ length agents
  openings_length agents [] = refl
  openings_length agents (rs ∷ rss) = after_length agent.after_reply (after_openings agent agents rss) rs ∙ openings_length agents rss

  rounds_length : (agents : List A) (rs : List Round) → length (after_rounds agent agents rs) ≡ length agents
  rounds_length agents [] = refl
  rounds_length agents (r ∷ rs) = after_length agent.after_reply (after_rounds agent agents rs) r.replies ∙ rounds_length agents rs

  -- ---- opening calls

  pub opened_none : (a : NodeCore) (agents : List A) → Opened agent 0 a agents a agents
  opened_none a agents = record { replies = []; count_is = refl; each = tt; adds = adds_nothing a; after = refl }

  pub opened_more : (count : ℕ) (a b c : NodeCore) (agents others news : List A) → Opened agent count a agents b others → ActsAll agent b others c news
      → Opened agent (count + 1) a agents c news
  opened_more count a b c agents others news p q =
      let f : Adds b (all_agent_calls agent (after_openings agent agents p.replies) q.replies) c = subst (λ l. Adds b (all_agent_calls agent l q.replies) c) p.after q.adds in
      record {
        replies = q.replies ∷ p.replies;
        count_is = (let e : suc (length p.replies) ≡ length p.replies + 1 = omega arith in e) ∙ ap (λ n. n + 1) p.count_is;
        each = (q.count ∙ ap (λ l. length l) p.after ∙ openings_length agents p.replies, p.each);
        adds = adds_on a b c (opening_calls agent agents p.replies) _ p.adds f;
        after = q.after ∙ ap (λ l. all_after agent l q.replies) p.after;
      }

  pub opened_some : (count : ℕ) (a b c : NodeCore) (agents others : List A) → Opened agent count a agents b others → GoesSome b c → GoesSome a c
  opened_some count a b c agents others p q = record { calls = opening_calls agent agents p.replies ++ q.calls; adds = adds_on a b c _ _ p.adds q.adds }

  -- ---- turns

  pub went_none : (wait : ℕ) (a : NodeCore) (agents : List A) (x : Told) → Went agent 0 wait a agents x 0 a agents x
  went_none wait a agents x = record { rounds = []; count_is = refl; each = tt; adds = adds_nothing a; after_is = refl; reading = refl; tells = refl }

  pub went_more : (count wait now later : ℕ) (a b c d : NodeCore) (agents others news : List A) (x y z : Told) → Went agent count wait a agents x now b others y
      → Exchanged wait b y later c z → ActsAll agent c others d news → Went agent (count + 1) wait a agents x later d news z
  went_more count wait now later a b c d agents others news x y z p e q =
      let r : Round = record { turn = e.turn; replies = q.replies } in
      let f : Adds c (all_agent_calls agent (after_rounds agent agents p.rounds) q.replies) d = subst (λ l. Adds c (all_agent_calls agent l q.replies) d) p.after_is q.adds in
      record {
        rounds = r ∷ p.rounds;
        count_is = (let e : suc (length p.rounds) ≡ length p.rounds + 1 = omega arith in e) ∙ ap (λ n. n + 1) p.count_is;
        each = (q.count ∙ ap (λ l. length l) p.after_is ∙ rounds_length agents p.rounds, p.each);
        adds = adds_on a b d (round_calls agent agents p.rounds) _ p.adds (adds_on b c d (turn_calls e.turn) _ e.adds f);
        after_is = q.after ∙ ap (λ l. all_after agent l q.replies) p.after_is;
        reading = e.reading;
        tells = (y, p.tells, e.tells);
      }

  pub went_some : (count wait now later : ℕ) (a b c d : NodeCore) (agents others : List A) (x y z : Told) → Went agent count wait a agents x now b others y
      → Exchanged wait b y later c z → GoesSome c d → GoesSome a d
  went_some count wait now later a b c d agents others x y z p e q = record {
    calls = round_calls agent agents p.rounds ++ (turn_calls e.turn ++ q.calls);
    adds = adds_on a b d _ _ p.adds (adds_on b c d _ _ e.adds q.adds);
  }

  -- ---- the end

  pub ran_open : (count wait now : ℕ) (p : LinkPlan) (a b c : NodeCore) (agents others : List A) (readings : Option (List ℕ)) (x y : LinksTold) (z : Told) (w : LinksTold)
      → OpensLinks p x y → Went agent count wait a agents (told readings y) now b others z → Drained now b z.links c w
      → RanOpen agent count wait p a agents (told readings x) c others (told z.readings w)
  ran_open count wait now p a b c agents others readings x y z w o g d = record {
    rounds = g.rounds;
    last = d.reply;
    ready = told readings y;
    middle = z;
    count_is = g.count_is;
    each = g.each;
    adds =
        subst (λ n. Adds a (round_calls agent agents g.rounds ++ loop_call n (input.Drain 320) d.reply ∷ []) c) g.reading
        (adds_on a b c (round_calls agent agents g.rounds) (loop_call now (input.Drain 320) d.reply ∷ []) g.adds (d.went.goes 0));
    after_is = g.after_is;
    unread = refl;
    opens = o;
    tells = g.tells;
    readings = refl;
    hands = d.hands;
  }

  pub ran : (opening count wait : ℕ) (p : LinkPlan) (a b c : NodeCore) (agents others news : List A) (x y : Told) → Opened agent opening a agents b others
      → RanOpen agent count wait p b others x c news y → Ran agent opening count wait p a agents x c news y
  ran opening count wait p a b c agents others news x y o r =
      let s : RanOpen agent count wait p b (after_openings agent agents o.replies) x c news y = subst (λ l. RanOpen agent count wait p b l x c news y) o.after r in
      record {
        replies = o.replies;
        rounds = s.rounds;
        last = s.last;
        ready = s.ready;
        middle = s.middle;
        opening_is = o.count_is;
        count_is = s.count_is;
        each_opening = o.each;
        each = subst (λ n. AllByRecursion (λ (r : Round). length r.replies ≡ n) s.rounds) (openings_length agents o.replies) s.each;
        adds = adds_on a b c (opening_calls agent agents o.replies) _ o.adds s.adds;
        after_is = s.after_is;
        unread = s.unread;
        opens = s.opens;
        tells = s.tells;
        readings = s.readings;
        hands = s.hands;
      }

  pub short_opened : (count : ℕ) (a b c : NodeCore) (agents others : List A) → Opened agent count a agents b others → GoesSome b c → GoesSome a c
  short_opened count a b c agents others p q = opened_some count a b c agents others p q

  pub ruleset running = (ran, short_opened)

  pub ruleset running_open = (ran_open)

pub short_none : (a : NodeCore) → GoesSome a a
short_none a = record { calls = []; adds = adds_nothing a }
