-- In each network that a run of a network of doubters comes to, each prefix that was settled was answered for, and is accepted never.
use Rattle.std.proofs.Common.{◌≡◌, sym, subst, ℕ, List, [], ◌∷◌, Contains, Some}
use Rattle.grasp_model_doubts.specs.Events.{CallOccurs, DoubtOccurs, doubt_event}
use Rattle.grasp_model_doubts.specs.Openings.{first_doubts}
use Rattle.grasp_model_doubts.specs.Runs.{AreDoubtTurns, DoubtTurn, IsDoubted, IsToldOpeners, doubted}
use Rattle.grasp_model_doubts.specs.World.{DoubtState}
use Rattle.grasp_model_doubts.specs.declared.event.DoubtEvent.{DoubtEvent}
use Rattle.grasp_model_doubts.specs.declared.event.DoubtEvent.TheVariants as doubt
use Rattle.grasp_model_network.specs.GoodSetting.{IsGoodSetting}
use Rattle.grasp_model_network.specs.Runs.{IsReached}
use Rattle.grasp_model_network.specs.Setting.{Setting, numbered}
use Rattle.grasp_model_network.specs.Visits.{Choice}
use Rattle.grasp_model_network.specs.World.{Offered}
use Rattle.grasp_laws_doubts.proofs.Doubted.{DoubtersStand}
use Rattle.grasp_laws_doubts.proofs.Parts.{SettlesSo, doubt_kept}
use Rattle.grasp_laws_doubts.proofs.Reached.{FirstStands, call_settles_answered, call_settles_dead, event_reached}
use Rattle.grasp_laws_doubts.specs.Grounds.{Grounds}
use Rattle.grasp_laws_prefixes.proofs.Listing.{none_in}
use Rattle.grasp_laws_settled.proofs.Answering.{AllAnswered, AnswersStand, SettlesWell, answers_keep}
use Rattle.grasp_laws_settled.specs.Resolved.{DoubtsAreResolved, EachDoubtIsResolved}

-- ---- runs

module _ (l : Grounds) (s : Setting) (told_so : IsToldOpeners s) where
  settles_well : (x : DoubtState) (e : DoubtEvent) (c : Choice) → IsReached s x.world → DoubtersStand s x.world x.doubters → DoubtOccurs s x e c → SettlesSo s SettlesWell (AnswersStand s) (answers_keep l s told_so) x e c
  settles_well x (doubt.Plain e) c r all o = tt
  settles_well x (doubt.Doubter node) c r all o = λ d p is e.
      let occurs = subst (λ z. CallOccurs s x.world node c z) is o in
      record {
        dead = call_settles_dead l s told_so x.world x.doubters node c d r all is occurs p e;
        answered = call_settles_answered l s told_so x.world x.doubters node c d r all is occurs p e;
      }
  settles_well x (doubt.Ask node p peer) c r all o = tt

  run_answers : (x : DoubtState) (ts : List DoubtTurn) → IsReached s x.world → AnswersStand s x.world x.doubters → AreDoubtTurns s x ts
      → IsReached s (doubted s x ts).world × AnswersStand s (doubted s x ts).world (doubted s x ts).doubters
  unfolding AreDoubtTurns doubted
  run_answers x [] r all run = (r, all)
  run_answers x (t ∷ ts) r all run =
      run_answers (doubt_event s x t.event t.choice) ts (event_reached l s told_so x t.event t.choice r all.stand run.0)
      (doubt_kept s SettlesWell (AnswersStand s) (answers_keep l s told_so) x t.event t.choice r all.stand.count run.0 (settles_well x t.event t.choice r all.stand run.0) all) run.1

-- ---- the first network

-- nothing was settled
abbrev pub FirstSettled : Type 0
FirstSettled = (s : Setting) → IsGoodSetting s → (first_doubts s).world.settled ≡ []

pub each_doubt_is_resolved : Grounds → FirstStands → FirstSettled → EachDoubtIsResolved
each_doubt_is_resolved l first none s x k = record { reached = all.0; answered = all.1.all; never = (l.offers s x.world all.0).settled } where
  start : AllAnswered (first_doubts s).world
  start o has = absurd (none_in o (subst (λ (os : List Offered). Contains os o) (none s k.good) has))

  all : IsReached s x.world × AnswersStand s x.world x.doubters
  all =
      let f = first s k.good in
      subst (λ (z : DoubtState). IsReached s z.world × AnswersStand s z.world z.doubters) (sym k.last) (run_answers l s k.told (first_doubts s) k.turns f.0 (record { stand = f.1; all = start }) k.run)
