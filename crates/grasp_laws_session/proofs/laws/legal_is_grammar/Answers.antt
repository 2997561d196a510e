use Rattle.grasp_laws_session.proofs.Words.{legal_is_word}
use Rattle.grasp_laws_session.proofs.Lasts.{conversation_is_grammar}
use Rattle.grasp_laws_session.proofs.laws.legal_is_grammar.Goals as goal

pub returns : goal.returns
returns c = record { plain = legal_is_word; whole = conversation_is_grammar }
