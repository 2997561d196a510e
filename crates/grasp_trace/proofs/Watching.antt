-- Streams that are watched.
use Rattle.std.proofs.Common.{◌≡◌, ℕ, Bool, List, Option, None, Some, sym, subst, ◌∙◌, ◌⊎◌, inl, inr, rules}
use Rattle.grasp_wire.specs.declared.cutter.Cutter.{Cutter}
use Rattle.grasp_trace.specs.Lines.{most_bytes}
use Rattle.grasp_trace.specs.Messages.{TellsWith, LeavesOut, Begins}
use Rattle.grasp_trace.specs.Sheet.{Sheet, NeverFalls, IsLeftOut}
use Rattle.grasp_trace.specs.Trace.{Trace}
use Rattle.grasp_trace.specs.Watching.{Cutters, IsSomeNew, OthersStay, ChangesAlone}
use Rattle.grasp_trace.proofs.Telling.{is_quiet, falls_on}

-- a piece of a direction that isn't watched
pub piece_unwatched : (what : List ℕ) (stream : ℕ) (piece : List ℕ) (old new : Option Cutter) (s : Sheet) → old ≡ None → new ≡ None → TellsWith what stream piece old new s s
piece_unwatched what stream piece old new s p q = subst (λ o. TellsWith what stream piece o new s s) (sym p) (is_quiet s, q)

-- a piece of one that is
pub piece_watched : (what : List ℕ) (stream : ℕ) (piece : List ℕ) (old new left : Option Cutter) (cutter : Cutter) (a b : Sheet) → old ≡ Some cutter → new ≡ left
    → TellsWith what stream piece (Some cutter) left a b → TellsWith what stream piece old new a b
piece_watched what stream piece old new left cutter a b p q h =
    subst (λ o. TellsWith what stream piece o new a b) (sym p) (subst (λ n. TellsWith what stream piece (Some cutter) n a b) (sym q) h)

-- two changes of one direction
pub alone_then : (received : Bool) (stream : ℕ) (a b c : Cutters) → ChangesAlone received stream a b → ChangesAlone received stream b c → ChangesAlone received stream a c
alone_then received stream a b c p q = record {
  back = λ other d. q.back other d ∙ p.back other d;
  others = λ way other e. q.others way other e ∙ p.others way other e;
}

-- a stream that can't be watched
pub begins_none : (stream : ℕ) (old new : Trace) → ((received : Bool) → new.cutters received stream ≡ None) → IsLeftOut old.sheet new.sheet → OthersStay stream old.cutters new.cutters → Begins stream old new
begins_none stream old new none l others = record {
  begins = inr (none, record { mid = new.sheet; left_out = l; never_falls = record { faults = search rules; left_out = search rules } });
  others = others;
}

-- a line behind the beginning of a stream
pub begins_then : (stream : ℕ) (a b c : Trace) → Begins stream a b → c.cutters ≡ b.cutters → NeverFalls b.sheet c.sheet → Begins stream a c
begins_then stream a b c h p q = record { begins = by h.begins; others = subst (OthersStay stream a.cutters) (sym p) h.others }
  where
    Begun : Cutters → Sheet → Type 0
    Begun cutters s = ((received : Bool) → IsSomeNew most_bytes (cutters received stream)) ⊎ (((received : Bool) → cutters received stream ≡ None) × LeavesOut a.sheet s)

    by : Begun b.cutters b.sheet → Begun c.cutters c.sheet
    by (inl f) = inl (subst (λ (x : Cutters). (received : Bool) → IsSomeNew most_bytes (x received stream)) (sym p) f)
    by (inr n) = inr (
      subst (λ (x : Cutters). (received : Bool) → x received stream ≡ None) (sym p) n.0,
      record { mid = n.1.mid; left_out = n.1.left_out; never_falls = falls_on n.1.mid b.sheet c.sheet n.1.never_falls q },
    )
