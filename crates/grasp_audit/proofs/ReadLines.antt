-- What a line means in the audit's own network.
use Rattle.std.proofs.Common.{◌≡◌, ◌↔◌, sym, subst, ℕ, ◌≤◌, Bool, true, false, List, Err}
use Rattle.std.specs.Prelude.{IsTrue}
use Rattle.grasp_core.specs.Stands.{NodeStands}
use Rattle.grasp_core.specs.declared.node_core.NodeCore.{NodeCore}
use Rattle.grasp_model_audit.specs.Naming.{reading_of}
use Rattle.grasp_model_node.specs.Node.{NodeState}
use Rattle.grasp_record.specs.Laws.{RecordLinesMeanOneThing}
use Rattle.grasp_record.specs.Records.{IsNoRecordLine, IsRecord}
use Rattle.grasp_record.specs.declared.line.RecordLine.{RecordLine}
use Rattle.grasp_simulator.specs.WorldStands.{LendsCore}
use Rattle.grasp_simulator.specs.declared.world.World.{World}
use Rattle.grasp_audit.specs.Lines.{AuditsLine, HasFound, TellsInTime}
use Rattle.grasp_audit.specs.Standing.{HasLine}
use Rattle.grasp_audit.specs.declared.fault.LineFault.TheVariants as fault
use Rattle.grasp_audit.proofs.Seats.{line_ranges, own_reading}

no_truth : false ≡ true → ⊥
no_truth e = absurd (cc)

-- its reading
pub tells_in_time : (code : World) (x : RecordLine) (own : ℕ) (core : NodeCore) (is_so : Bool) → HasLine code x → LendsCore code x.node core → ((n : NodeState) → NodeStands core n → own ≡ n.reading)
    → (IsTrue is_so ↔ (own ≤ x.now)) → TellsInTime code x is_so
tells_in_time code x own core is_so line lends reads tells = λ s w stands.
    subst (λ (n : ℕ). IsTrue is_so ↔ (n ≤ x.now)) (sym (own_reading code s w x.node own core stands (line_ranges code x s w line stands).node lends reads)) tells

-- it is none of a record
pub fails_unread : (code : World) (nodes : ℕ) (line : List ℕ) → IsNoRecordLine nodes line → AuditsLine code code nodes line (Err fault.BadRecord)
fails_unread code nodes line none = λ s w at x means. none x means.is_line

module _ (code : World) (nodes : ℕ) (line : List ℕ) (x : RecordLine) (found : HasFound code nodes line x) where
  pub found_line : HasLine code x
  found_line = record {
    setting = found.goes.setting;
    network = found.goes.network;
    stands = found.goes.is_at.stands;
    ranges = subst (λ (n : ℕ). IsRecord n x) (sym found.goes.is_at.count) found.is_line.ranges;
  }

  -- it tells a reading that is too low
  pub fails_late : RecordLinesMeanOneThing → nodes ≤ 255 → TellsInTime code x false → AuditsLine code code nodes line (Err fault.BadRecord)
  fails_late one few late = λ s w at y means.
      no_truth ((late s w at.stands).1 (subst (λ (z : RecordLine). reading_of w z.node ≤ z.now) (one nodes line y x few means.is_line found.is_line) means.in_time))
