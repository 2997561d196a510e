-- What a table answers by what it keeps, it answers of its sessions.
use Rattle.std.proofs.Common.{◌≡◌, ℕ, Some, is_some, refl, sym, ap, ◌∙◌}
use Rattle.grasp_types.specs.declared.session.Handle.{Handle}
use Rattle.grasp_session.specs.declared.table.Table.{Table}
use Rattle.grasp_session.specs.Sessions.{Sessions, session_at, owner_of}
use Rattle.grasp_session.specs.Stands.{Stands, kept_at, owner_in}
use Rattle.grasp_session.specs.Answers.{TablesAnswerSo}
use Rattle.grasp_session.proofs.Tables.{reply_at, check_stands}
use Rattle.grasp_session.proofs.Means.{state_same}
use Rattle.grasp_session.proofs.Acts.{offers_named}

live_same : (t : Table) (z : Sessions) (h : Handle) → Stands t z → is_some (kept_at t.places h) ≡ is_some (session_at z h)
live_same t z h st = reply_at is_some is_some refl (λ s x k. refl) t z h (kept_at t.places h) st refl

owner_same : (t : Table) (z : Sessions) (h : Handle) → Stands t z → owner_in (kept_at t.places h) ≡ owner_of (session_at z h)
owner_same t z h st = reply_at owner_in owner_of refl (λ s x k. ap (λ (n : ℕ). Some n) k.owner) t z h (kept_at t.places h) st refl

pub answer_so : TablesAnswerSo
answer_so t z st = record {
  state = λ stream. state_same t z stream st;
  check = λ owner h act. check_stands t z owner h act st;
  live = λ h. (λ l. sym (live_same t z h st) ∙ l, λ l. live_same t z h st ∙ l);
  untaken = λ h. (λ u. sym (owner_same t z h st) ∙ u, λ u. owner_same t z h st ∙ u);
  offers = λ h o x. offers_named t z h o x st;
}
