-- Readers and their names.
use Rattle.std.proofs.Common.{◌≡◌, refl, ℕ, Bool, true, false, if◌then◌else◌, List, Option, None, Some}
use Rattle.grasp_types.specs.declared.flood.FloodRead.{FloodRead}
use Rattle.grasp_types.specs.declared.reply.Reply.{Reply}
use Rattle.grasp_agent.specs.Announcing.{ReaderState, after_keep, keeping, registered_reader, reads_in}
use Rattle.grasp_agent.specs.Replies.{answer_in, asa_in}

kept_name : (s : ReaderState) (reads : Option (List FloodRead)) → (keeping s reads).name ≡ s.name
kept_name s None = refl
kept_name s (Some reads) = refl

registered_name : (s : ReaderState) (asa : Option ℕ) → (registered_reader s asa).name ≡ s.name
registered_name s None = refl
registered_name s (Some n) = refl

either_name : (b : Bool) (s x y : ReaderState) → x.name ≡ s.name → y.name ≡ s.name → (if b then x else y).name ≡ s.name
either_name true s x y p q = p
either_name false s x y p q = q

-- a reply that is kept leaves the reader its name
pub name_stays : (s : ReaderState) (r : Reply) → (after_keep s r).name ≡ s.name
unfolding after_keep
name_stays s r = either_name s.registered s (keeping s (reads_in (answer_in r))) (registered_reader s (asa_in (answer_in r))) (kept_name s (reads_in (answer_in r))) (registered_name s (asa_in (answer_in r)))
