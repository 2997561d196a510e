-- What is recorded of each line of a script holds.
use Rattle.std.proofs.Common.{◌≡◌, refl, sym, ap, ◌∙◌, subst, arith, ℕ, ◌≤◌, true, List, [], ◌∷◌, ◌++◌, map, Option, None, Some}
use Rattle.std.proofs.lemmas.List.{map-append}
use Rattle.grasp_laws_delivery.specs.Ready.{StepsArePresent, StreamsAreReady}
use Rattle.grasp_laws_network.proofs.GoodPlans.{plan_reached}
use Rattle.grasp_laws_network.proofs.LivesKept.{lives_are_kept}
use Rattle.grasp_laws_network.specs.Lives.{LivesStand}
use Rattle.grasp_wire.specs.Laws.{OneMessageForBytes}
use Rattle.grasp_model_network.specs.Events.{Occurs, after_by, after_event, visit_of}
use Rattle.grasp_model_network.specs.Plans.{IsGoodPlan}
use Rattle.grasp_model_network.specs.Runs.{IsReached, world_after, world_of}
use Rattle.grasp_model_network.specs.Setting.{Setting, script_setting}
use Rattle.grasp_model_network.specs.Telling.{telling_of, after_told}
use Rattle.grasp_model_network.specs.Visits.{Choice, Visit}
use Rattle.grasp_model_network.specs.World.{WorldState, present_life}
use Rattle.grasp_model_network.specs.declared.event.Event.{Event}
use Rattle.grasp_model_network.specs.declared.event.Event.TheVariants as event
use Rattle.grasp_model_network.specs.declared.plan.WorldPlan.{WorldPlan}
use Rattle.grasp_script.specs.Scripts.{IsHeader, text_lines}
use Rattle.grasp_script.specs.declared.line.LineAct.{LineAct}
use Rattle.grasp_script.specs.declared.line.LineAct.TheVariants as act
use Rattle.grasp_model_script.proofs.RunLaws.{act_reached}
use Rattle.grasp_model_script.specs.Laws.{EachNetworkIsSafe}
use Rattle.grasp_model_script.specs.LineRuns.{LineRun, MayComeOut, after_act, after_line, placed_call, placed_event}
use Rattle.grasp_model_script.specs.ScriptRuns.{MayRunAll, network_after}
use Rattle.grasp_record.specs.Laws.{EachRecordHasOneLine}
use Rattle.grasp_record.specs.Records.{record_line}
use Rattle.grasp_record.specs.declared.line.RecordLine.{RecordLine}
use Rattle.grasp_model_audit.specs.Audits.{IsAudited}
use Rattle.grasp_model_audit.specs.Lines.{AllHold, AuditedLine, after_lines, texts_of}
use Rattle.grasp_model_audit.specs.Recording.{act_lines, event_lines, lines_by, untaken_lines}
use Rattle.grasp_laws_audit.proofs.Calls.{agent_steps, call_steps}
use Rattle.grasp_laws_audit.proofs.Clocks.{clocks_hold, drains_hold}
use Rattle.grasp_laws_audit.proofs.Datagrams.{datagram_steps}
use Rattle.grasp_laws_audit.proofs.Holding.{none_hold}
use Rattle.grasp_laws_audit.proofs.Named.{arrival_steps, cut_steps, piece_steps}
use Rattle.grasp_laws_audit.proofs.Present.{IsPresent, present}
use Rattle.grasp_laws_audit.proofs.Runs.{audited_runs_are_safe}
use Rattle.grasp_laws_audit.proofs.Steps.{steps_hold}
use Rattle.grasp_laws_audit.proofs.Told.{return_holds, want_holds}
use Rattle.grasp_laws_audit.specs.ReadBack.{AreReadable, read_back}
use Rattle.grasp_laws_audit.specs.Recorded.{HoldAs, RecordLinesHold, lines_from, meant_by}

-- what it rests on
pub record Grounds : Type 0 where
  pub lines : EachRecordHasOneLine
  pub messages : OneMessageForBytes
  pub present : StepsArePresent
  pub ready : StreamsAreReady
  pub safe : EachNetworkIsSafe

module _ (k : Grounds) (plan : WorldPlan) (few : plan.nodes ≤ 255) where
  abbrev s : Setting
  s = script_setting plan

  abbrev nodes : ℕ
  nodes = plan.nodes

  -- ---- events

  module _ (w : WorldState) (r : IsReached s w) (c : Choice) where
    stand : LivesStand s w
    stand = lives_are_kept s w r

    -- an event whose step comes out
    abbrev Stepping : Event → Type 0
    Stepping e = (v : Visit) → visit_of s w e ≡ Some v → AreReadable nodes (lines_by s w e c (Some v)) → HoldAs nodes s w (lines_by s w e c (Some v)) (after_event s w e c)

    visiting : (e : Event) → telling_of s w e ≡ None → untaken_lines s w e c ≡ [] → Stepping e → AreReadable nodes (event_lines s w e c) → HoldAs nodes s w (event_lines s w e c) (after_event s w e c)
    unfolding event_lines after_event
    visiting e silent empty stepping readable = by_visit (visit_of s w e) refl readable where
      nothing : visit_of s w e ≡ None → w ≡ after_event s w e c
      nothing is = sym (ap (λ (o : Option Visit). after_by s w e c o) is ∙ ap (after_told w) silent)

      by_visit : (o : Option Visit) → visit_of s w e ≡ o → AreReadable nodes (lines_by s w e c o) → HoldAs nodes s w (lines_by s w e c o) (after_event s w e c)
      by_visit None is h = subst (λ (ys : List RecordLine). HoldAs nodes s w ys (after_event s w e c)) (sym empty) (none_hold nodes s w (after_event s w e c) (nothing is))
      by_visit (Some v) is h = stepping v is h

    there : (e : Event) (v : Visit) → Occurs s w e c → visit_of s w e ≡ Some v → IsPresent s w v
    there e v o is = present k.present s w e v r o.fit is

    event_holds : (e : Event) → Occurs s w (placed_event w e) c → AreReadable nodes (event_lines s w (placed_event w e) c) → HoldAs nodes s w (event_lines s w (placed_event w e) c) (after_event s w (placed_event w e) c)
    unfolding event_lines
    event_holds (event.Want node shortest longest peer) o h = want_holds nodes few k.lines s w stand c node shortest longest peer o h
    event_holds (event.Return node prefix peer) o h = return_holds nodes few k.lines s w stand c node peer prefix o h
    event_holds (event.Clock node millis) o h =
        visiting (event.Clock node millis) refl refl (λ v is g. clocks_hold nodes few k.lines s w r stand v c (there (event.Clock node millis) v o is) node millis is o g.0) h
    event_holds (event.Drain node most) o h =
        visiting (event.Drain node most) refl refl (λ v is g. drains_hold nodes few k.lines s w r stand v c (there (event.Drain node most) v o is) node most is o g.0) h
    event_holds (event.Agent node hold) o h =
        visiting (event.Agent node hold) refl refl
        (λ v is g. steps_hold nodes few k.lines s w (event.Agent node hold) (event.Agent node true) v c (agent_steps s w stand v c (there (event.Agent node hold) v o is) nodes node hold is o) g) h
    event_holds (event.Api node asa it hold) o h =
        let e = event.Api node asa (placed_call w (present_life w node) it) hold in
        let f = event.Api node asa (placed_call w (present_life w node) it) true in
        visiting e refl refl (λ v is g. steps_hold nodes few k.lines s w e f v c (call_steps s w stand v c (there e v o is) nodes node asa it hold is o) g) h
    event_holds (event.Datagram index hold) o h =
        let e = event.Datagram index hold in
        visiting e refl refl (λ v is g.
        let steps = datagram_steps k.messages s w r stand v c (there e v o is) nodes index hold is o in
        steps_hold nodes few k.lines s w e (event.Datagram steps.0 true) v c steps.1 g) h
    event_holds (event.Arrive stream hold) o h =
        let e = event.Arrive stream hold in
        visiting e refl refl (λ v is g. steps_hold nodes few k.lines s w e (event.Arrive stream true) v c (arrival_steps k.ready plan w r v c (there e v o is) nodes stream hold is o) g) h
    event_holds (event.Bytes stream far count hold) o h =
        let e = event.Bytes stream far count hold in
        visiting e refl refl (λ v is g.
        let steps = piece_steps k.ready s w r v c (there e v o is) nodes stream count far hold is o in
        steps_hold nodes few k.lines s w e (event.Bytes stream far steps.0 true) v c steps.1 g) h
    event_holds (event.Cut stream far hold) o h =
        let e = event.Cut stream far hold in
        visiting e refl refl (λ v is g. steps_hold nodes few k.lines s w e (event.Cut stream far true) v c (cut_steps k.ready s w r v c (there e v o is) nodes stream far hold is o) g) h

    pub act_holds : (a : LineAct) → MayComeOut s w a c → AreReadable nodes (act_lines s w a c) → HoldAs nodes s w (act_lines s w a c) (after_act s w a c)
    act_holds (act.Event e) o h = event_holds e o h
    act_holds (act.State node) o h = none_hold nodes s w w refl

  -- ---- runs

  texts_joined : (ys zs : List AuditedLine) → texts_of (ys ++ zs) ≡ texts_of ys ++ texts_of zs
  texts_joined [] zs = refl
  texts_joined (y ∷ ys) zs = ap (λ (ts : List (List ℕ)). y.text ∷ ts) (texts_joined ys zs)

  meant_joined : (ys zs : List AuditedLine) → meant_by (ys ++ zs) ≡ meant_by ys ++ meant_by zs
  meant_joined [] zs = refl
  meant_joined (y ∷ ys) zs = ap (λ (ts : List RecordLine). y.meant ∷ ts) (meant_joined ys zs)

  all_joined : (ys zs : List AuditedLine) (w : WorldState) → AllHold nodes s w ys → AllHold nodes s (after_lines s w ys) zs → AllHold nodes s w (ys ++ zs)
  unfolding AllHold after_lines
  all_joined [] zs w a b = b
  all_joined (y ∷ ys) zs w a b = (a.0, all_joined ys zs (world_after s w y.happened) a.1 b)

  after_joined : (ys zs : List AuditedLine) (w : WorldState) → after_lines s w (ys ++ zs) ≡ after_lines s (after_lines s w ys) zs
  unfolding after_lines
  after_joined [] zs w = refl
  after_joined (y ∷ ys) zs w = after_joined ys zs (world_after s w y.happened)

  joined_hold : (w u x : WorldState) (ys zs : List RecordLine) → HoldAs nodes s w ys u → HoldAs nodes s u zs x → HoldAs nodes s w (ys ++ zs) x
  joined_hold w u x ys zs a b = record {
    audited = a.audited ++ b.audited;
    texts = texts_joined a.audited b.audited ∙ (λ i. a.texts i ++ b.texts i) ∙ sym (map-append record_line ys zs);
    meant = meant_joined a.audited b.audited ∙ (λ i. a.meant i ++ b.meant i) ∙ sym (map-append read_back ys zs);
    hold = all_joined a.audited b.audited w a.hold (subst (λ (y : WorldState). AllHold nodes s y b.audited) (sym a.last) b.hold);
    last = after_joined a.audited b.audited w ∙ ap (λ (y : WorldState). after_lines s y b.audited) a.last ∙ b.last;
  }

  readable_front : (ys zs : List RecordLine) → AreReadable nodes (ys ++ zs) → AreReadable nodes ys
  readable_front [] zs h = tt
  readable_front (y ∷ ys) zs h = (h.0, readable_front ys zs h.1)

  readable_rest : (ys zs : List RecordLine) → AreReadable nodes (ys ++ zs) → AreReadable nodes zs
  readable_rest [] zs h = h
  readable_rest (y ∷ ys) zs h = readable_rest ys zs h.1

  pub run_holds : (xs : List LineRun) (w : WorldState) → IsReached s w → MayRunAll s w xs → AreReadable nodes (lines_from s w xs) → HoldAs nodes s w (lines_from s w xs) (network_after s w xs)
  unfolding MayRunAll lines_from network_after
  run_holds [] w r m h = none_hold nodes s w w refl
  run_holds (x ∷ xs) w r m h =
      let here = act_lines s w x.line.act x.choice in
      let next = after_line s w x in
      joined_hold w next (network_after s next xs) here (lines_from s next xs) (act_holds w r x.choice x.line.act m.0 (readable_front here (lines_from s next xs) h))
      (run_holds xs next (act_reached s w x.line.act x.choice r m.0) m.1 (readable_rest here (lines_from s next xs) h))

few_nodes : (plan : WorldPlan) → IsGoodPlan plan → plan.nodes ≤ 255
few_nodes plan good = let most = good.most_nodes in omega (arith, most)

texts_audited : Grounds → (text : List ℕ) (header : List (List ℕ)) (plan : WorldPlan) (xs : List LineRun) → IsHeader header plan → MayRunAll (script_setting plan) (world_of plan) xs
    → AreReadable plan.nodes (lines_from (script_setting plan) (world_of plan) xs) → text_lines text ≡ header ++ map record_line (lines_from (script_setting plan) (world_of plan) xs) → IsAudited text
texts_audited k text header plan xs is m h parts =
    let held = run_holds k plan (few_nodes plan is.good) xs (world_of plan) (plan_reached plan is.good) m h in
    record {
      plan = plan;
      lines = held.audited;
      audits = record {
        header = header;
        is_header = is;
        parts = parts ∙ ap (λ (lines : List (List ℕ)). header ++ lines) (sym held.texts);
        hold = held.hold;
        safe = (audited_runs_are_safe k.safe).safe plan held.audited is.good held.hold;
      };
    }

pub record_lines_hold : Grounds → RecordLinesHold
record_lines_hold k = record {
  acts = λ plan w a c good r m h. act_holds k plan (few_nodes plan good) w r c a m h;
  runs = λ plan xs good m h. run_holds k plan (few_nodes plan good) xs (world_of plan) (plan_reached plan good) m h;
  texts = texts_audited k;
}
