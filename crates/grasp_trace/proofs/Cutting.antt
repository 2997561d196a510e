-- Messages of a stream that are told one after the other.
use Rattle.std.proofs.Common.{◌≡◌, ℕ, List, [], ◌∷◌, ◌++◌, Option, None, Some, Ok, Err, refl, sym, subst, ◌∙◌, append_assoc, append-nil, inl}
use Rattle.grasp_types.specs.declared.message.Message.{Message}
use Rattle.grasp_wire.specs.Cutter.{Past, after_feed, after_next, AnswersNext}
use Rattle.grasp_wire.specs.Stands.{Stands, cut_limit}
use Rattle.grasp_wire.specs.declared.cutter.Cutter.{Cutter}
use Rattle.grasp_wire.specs.declared.fault.CutFault.{CutFault}
use Rattle.grasp_trace.specs.Lines.{message_line}
use Rattle.grasp_trace.specs.Messages.{TellsMessages, TellsLast, TellsCut, TellsFed, Telling, telling, HasTold, with_given}
use Rattle.grasp_trace.specs.Sheet.{Sheet, Tells}
use Rattle.grasp_trace.proofs.Telling.{quiet_tells, is_quiet}

one_more : (what : List ℕ) (stream : ℕ) (ms : List Message) (m : Message) (a b c : Sheet) → TellsMessages what stream ms a b → Tells (message_line what stream m) b c
    → TellsMessages what stream (ms ++ m ∷ []) a c
one_more what stream [] m a b c q t = (c, quiet_tells (message_line what stream m) a b c q t, is_quiet c)
one_more what stream (x ∷ xs) m a b c h t = (h.0, h.1, one_more what stream xs m h.0 b c h.2 t)

-- the past with these messages as those that were given
abbrev with_list : Past → List Message → Past
with_list past given = record past { given = given }

-- before the first
pub none_told : (what : List ℕ) (stream : ℕ) (past : Past) (cutter : Cutter) (s : Sheet) → Stands cutter past → HasTold what stream (telling past cutter s) cutter s
none_told what stream past cutter s h = record {
  messages = [];
  tells = is_quiet s;
  stands = subst (λ given. Stands cutter (with_list past given)) (sym (append-nil past.given)) h;
  limit_is = refl;
}

-- one more
pub told_more : (what : List ℕ) (stream : ℕ) (t : Telling) (cutter next : Cutter) (m : Message) (b c : Sheet) → HasTold what stream t cutter b
    → ((p : Past) → Stands cutter p → Stands next (after_next p (Ok (Some m)))) → cut_limit next ≡ cut_limit cutter → Tells (message_line what stream m) b c
    → HasTold what stream t next c
told_more what stream t cutter next m b c h then limit line = record {
  messages = h.messages ++ m ∷ [];
  tells = one_more what stream h.messages m t.begun b c h.tells line;
  stands = subst (λ given. Stands next (with_list t.past given)) (append_assoc t.past.given h.messages (m ∷ [])) (then (with_given t.past h.messages) h.stands);
  limit_is = limit ∙ h.limit_is;
}

-- all were told: more bytes are waited for
pub told_all : (what : List ℕ) (stream : ℕ) (t : Telling) (cutter next : Cutter) (b : Sheet) → HasTold what stream t cutter b
    → ((p : Past) → Stands cutter p → AnswersNext (cut_limit cutter) p p.fault (Ok None)) → ((p : Past) → Stands cutter p → Stands next p) → cut_limit next ≡ cut_limit cutter
    → TellsCut what stream t.limit t.past (Some next) t.begun b
told_all what stream t cutter next b h answers then limit = record {
  messages = h.messages;
  last = Ok None;
  mid = b;
  tells = h.tells;
  answers = subst (λ n. AnswersNext n (with_given t.past h.messages) t.past.fault (Ok None)) h.limit_is (answers (with_given t.past h.messages) h.stands);
  ends = is_quiet b;
  goes_on = record { stands = then (with_given t.past h.messages) h.stands; limit_is = limit ∙ h.limit_is };
}

-- or there is a fault
pub told_fault : (what : List ℕ) (stream : ℕ) (t : Telling) (cutter : Cutter) (fault : CutFault) (b c : Sheet) → HasTold what stream t cutter b
    → ((p : Past) → Stands cutter p → AnswersNext (cut_limit cutter) p p.fault (Err fault)) → TellsLast what stream (Err fault) b c
    → TellsCut what stream t.limit t.past None t.begun c
told_fault what stream t cutter fault b c h answers last = record {
  messages = h.messages;
  last = Err fault;
  mid = b;
  tells = h.tells;
  answers = subst (λ n. AnswersNext n (with_given t.past h.messages) t.past.fault (Err fault)) h.limit_is (answers (with_given t.past h.messages) h.stands);
  ends = last;
  goes_on = refl;
}

-- a piece that was fed
pub fed_told : (what : List ℕ) (stream : ℕ) (past : Past) (first fed : Cutter) (piece : List ℕ) (left : Option Cutter) (a b : Sheet) → Stands fed (after_feed past piece)
    → cut_limit fed ≡ cut_limit first → ((p : Past) → Stands fed p → TellsCut what stream (cut_limit fed) p left a b) → TellsFed what stream (cut_limit first) past piece left a b
fed_told what stream past first fed piece left a b h limit told =
    inl (subst (λ n. TellsCut what stream n (after_feed past piece) left a b) limit (told (after_feed past piece) h))
