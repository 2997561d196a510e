-- The record lines of wants and returns.
use Rattle.std.proofs.Common.{◌≡◌, refl, sym, ap, ◌∙◌, ℕ, ◌≤◌, [], ◌∷◌, Some}
use Rattle.grasp_laws_network.proofs.Lists.{numbered_there}
use Rattle.grasp_laws_network.proofs.Lives.{same_present}
use Rattle.grasp_laws_network.proofs.Returned.{returns_change_returns}
use Rattle.grasp_laws_network.proofs.SameLives.{event_lives}
use Rattle.grasp_laws_network.proofs.Staying.{wants_change_wants}
use Rattle.grasp_laws_network.specs.Lives.{LivesStand}
use Rattle.grasp_types.specs.Prefix.{AddressBlock as Prefix}
use Rattle.grasp_model_network.specs.EventSteps.{returning_reply, wanting_reply}
use Rattle.grasp_model_network.specs.Events.{Occurs, after_event}
use Rattle.grasp_model_network.specs.Reports.{report_of}
use Rattle.grasp_model_network.specs.Runs.{world_after}
use Rattle.grasp_model_network.specs.Setting.{Setting}
use Rattle.grasp_model_network.specs.Visits.{Choice}
use Rattle.grasp_model_network.specs.World.{Seat, WorldState, present_life, seat_at}
use Rattle.grasp_model_network.specs.declared.event.Event.{Event}
use Rattle.grasp_model_network.specs.declared.event.Event.TheVariants as event
use Rattle.grasp_record.specs.Laws.{EachRecordHasOneLine}
use Rattle.grasp_record.specs.declared.line.RecordAnswer.TheVariants as answer
use Rattle.grasp_record.specs.declared.line.RecordInput.TheVariants as took
use Rattle.grasp_record.specs.declared.line.RecordLine.{RecordLine}
use Rattle.grasp_model_audit.specs.Naming.{event_named, reading_in, reading_of}
use Rattle.grasp_model_audit.specs.Recording.{untaken_lines}
use Rattle.grasp_laws_audit.proofs.Holding.{came, fits_holds, one_holds}
use Rattle.grasp_laws_audit.specs.ReadBack.{AreReadable}
use Rattle.grasp_laws_audit.specs.Recorded.{HoldAs}

-- the reading of a node whose seat has the same core in a network with the same lives
same_reading : (w x : WorldState) (node : ℕ) (seat other : Seat) → x.lives ≡ w.lives → seat_at w (present_life w node) ≡ Some seat → seat_at x (present_life w node) ≡ Some other → seat.core.reading ≡ other.core.reading
    → reading_of w node ≡ reading_of x node
same_reading w x node seat other lives here there same =
    ap reading_in here ∙ same ∙ sym (ap (λ k. reading_in (seat_at x k)) (same_present w x node lives) ∙ ap reading_in there)

module _ (nodes : ℕ) (few : nodes ≤ 255) (each : EachRecordHasOneLine) (s : Setting) (w : WorldState) (stand : LivesStand s w) (c : Choice) where
  pub want_holds : (node shortest longest peer : ℕ) → let e = event.Want node shortest longest peer in Occurs s w e c → AreReadable nodes (untaken_lines s w e c) → HoldAs nodes s w (untaken_lines s w e c) (after_event s w e c)
  unfolding event_named report_of world_after
  want_holds node shortest longest peer o r =
      one_holds nodes s w (after_event s w e c) line (came e c ∷ []) (fits_holds nodes few each s w line e c (record {
        ranges = r.0;
        reads = reads;
        named = refl;
        of_agent = tt;
        occurs = o;
        answer = refl;
      })) refl
    where
      e : Event
      e = event.Want node shortest longest peer

      line : RecordLine
      line = record { node = node; now = reading_of (after_event s w e c) node; input = took.Want shortest longest peer; answer = answer.Want (wanting_reply w (present_life w node)) }

      there : (seat : Seat) × (seat_at w (present_life w node) ≡ Some seat)
      there = numbered_there w.seats (present_life w node) (stand.present node o.fit.0)

      reads : reading_of w node ≡ reading_of (after_event s w e c) node
      reads =
          let own = (wants_change_wants s w node shortest longest peer c).own there.0 there.1 in
          same_reading w (after_event s w e c) node there.0 (record there.0 { agent = record there.0.agent { want = own.0 } }) (event_lives s w e c) there.1 own.1 refl

  pub return_holds : (node peer : ℕ) (prefix : Prefix) → let e = event.Return node prefix peer in Occurs s w e c → AreReadable nodes (untaken_lines s w e c) → HoldAs nodes s w (untaken_lines s w e c) (after_event s w e c)
  unfolding event_named report_of world_after
  return_holds node peer prefix o r =
      one_holds nodes s w (after_event s w e c) line (came e c ∷ []) (fits_holds nodes few each s w line e c (record {
        ranges = r.0;
        reads = reads;
        named = refl;
        of_agent = tt;
        occurs = o;
        answer = refl;
      })) refl
    where
      e : Event
      e = event.Return node prefix peer

      line : RecordLine
      line = record { node = node; now = reading_of (after_event s w e c) node; input = took.Return prefix peer; answer = answer.Return (returning_reply w (present_life w node) prefix) }

      there : (seat : Seat) × (seat_at w (present_life w node) ≡ Some seat)
      there = numbered_there w.seats (present_life w node) (stand.present node o.fit.0)

      reads : reading_of w node ≡ reading_of (after_event s w e c) node
      reads =
          let own = (returns_change_returns s w node peer prefix c).own there.0 there.1 in
          same_reading w (after_event s w e c) node there.0 (record there.0 { agent = record there.0.agent { pool = own.0; back = own.1.0 } }) (event_lives s w e c) there.1 own.1.1 refl
