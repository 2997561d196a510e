-- One line more of a run, and what happens in a run.
use Rattle.std.proofs.Common.{◌≡◌, refl, sym, ap, ◌∙◌, ℕ, suc, List, [], ◌∷◌, ◌++◌, append_assoc, length, Option, None, Some}
use Rattle.grasp_model_network.specs.Setting.{Setting}
use Rattle.grasp_model_network.specs.Visits.{Choice}
use Rattle.grasp_script_doubts.specs.declared.line.DoubtLine.{DoubtLine}
use Rattle.grasp_model_doubts.specs.Runs.{AreDoubtTurns, DoubtTurn}
use Rattle.grasp_model_doubts.specs.World.{DoubtState}
use Rattle.grasp_model_doubts.specs.declared.event.DoubtEvent.{DoubtEvent}
use Rattle.grasp_model_script_doubts.specs.LineRuns.{DoubtLineRun, MayHappen, MayRunDoubts, act_event, after_doubt_line, doubt_line_told, state_then, turn_of}
use Rattle.grasp_model_script_doubts.specs.ScriptRuns.{MayRunAllDoubts, doubt_lines_of, doubt_told_from, doubt_turns, state_after}

pub lines_more : (ls : List DoubtLineRun) (l : DoubtLineRun) → doubt_lines_of (ls ++ l ∷ []) ≡ doubt_lines_of ls ++ l.line ∷ []
lines_more [] l = refl
lines_more (m ∷ ls) l = ap (λ (ms : List DoubtLine). m.line ∷ ms) (lines_more ls l)

pub may_run_more : (s : Setting) (ls : List DoubtLineRun) (l : DoubtLineRun) (x : DoubtState) → MayRunAllDoubts s x ls → MayRunDoubts s (state_after s x ls) l → MayRunAllDoubts s x (ls ++ l ∷ [])
unfolding MayRunAllDoubts state_after
may_run_more s [] l x all one = (one, tt)
may_run_more s (m ∷ ls) l x all one = (all.0, may_run_more s ls l (after_doubt_line s x m) all.1 one)

pub state_more : (s : Setting) (ls : List DoubtLineRun) (l : DoubtLineRun) (x : DoubtState) → state_after s x (ls ++ l ∷ []) ≡ after_doubt_line s (state_after s x ls) l
unfolding state_after
state_more s [] l x = refl
state_more s (m ∷ ls) l x = state_more s ls l (after_doubt_line s x m)

pub told_more : (s : Setting) (ls : List DoubtLineRun) (l : DoubtLineRun) (x : DoubtState)
    → doubt_told_from s x (ls ++ l ∷ []) ≡ doubt_told_from s x ls ++ (doubt_line_told s (state_after s x ls) l ++ 10 ∷ [])
unfolding state_after doubt_told_from
told_more s [] l x = refl
told_more s (m ∷ ls) l x =
    ap (λ (t : List ℕ). doubt_line_told s x m ++ 10 ∷ t) (told_more s ls l (after_doubt_line s x m))
    ∙ sym (append_assoc (doubt_line_told s x m) (10 ∷ doubt_told_from s (after_doubt_line s x m) ls) (doubt_line_told s (state_after s (after_doubt_line s x m) ls) l ++ 10 ∷ []))

-- ---- the lines of a run are turns of a network of doubters

turns_then : (s : Setting) (x : DoubtState) (o : Option DoubtEvent) (c : Choice) (ts : List DoubtTurn) → MayHappen s x o c → AreDoubtTurns s (state_then s x o c) ts → AreDoubtTurns s x (turn_of o c ++ ts)
unfolding AreDoubtTurns
turns_then s x None c ts one all = all
turns_then s x (Some e) c ts one all = (one, all)

pub lines_are_turns : (s : Setting) (ls : List DoubtLineRun) (x : DoubtState) → MayRunAllDoubts s x ls → AreDoubtTurns s x (doubt_turns s x ls)
unfolding AreDoubtTurns MayRunAllDoubts doubt_turns
lines_are_turns s [] x all = tt
lines_are_turns s (l ∷ ls) x all =
    turns_then s x (act_event x.world l.line.act) l.choice (doubt_turns s (after_doubt_line s x l) ls) all.0 (lines_are_turns s ls (after_doubt_line s x l) all.1)

pub as_many : (ls : List DoubtLineRun) → length (doubt_lines_of ls) ≡ length ls
as_many [] = refl
as_many (l ∷ ls) = ap (λ (n : ℕ). suc n) (as_many ls)
