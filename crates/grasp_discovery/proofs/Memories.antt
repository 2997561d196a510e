-- What the calls of a map do to memories.
use Rattle.std.proofs.Common.{lt-ltb, ◌≡◌, ◌<◌, ◌≤◌, Bool, true, false, cond, ◌||◌, nat_lt, List, [], ◌∷◌, ◌++◌, length, None, Some, is_some, refl, sym, ap, ◌∙◌, true≢false, arith}
use Rattle.std.specs.List.{list_any}
use Rattle.std.specs.Map.{lookup}
use Rattle.indexmap.specs.IndexMap.{insert_entry}
use Rattle.grasp_cbor.proofs.Facts.Lists.{is_some_lookup}
use Rattle.grasp_types.specs.declared.origin.Origin.{Origin}
use Rattle.grasp_types.specs.Same.{same_origin}
use Rattle.grasp_types.specs.declared.address.Address.{Address}
use Rattle.grasp_discovery.specs.declared.answers.Answered.TheVariants.{Relay}
use Rattle.grasp_discovery.specs.declared.answers.Heard.TheVariants.{Known, NoPlace, New}
use Rattle.grasp_discovery.specs.declared.memory.Memory.{Memory}
use Rattle.grasp_discovery.specs.Discoveries.{Discoveries, heard_reply, memory_of, own_search, asked, asker_of}

-- a new memory goes last
pub insert_entry_new : (origin : Origin) (memory : Memory) (es : List (Origin × Memory)) → list_any (λ m. same_origin origin m.0) es ≡ false → insert_entry same_origin es origin memory ≡ es ++ (origin, memory) ∷ []
insert_entry_new origin memory [] none = refl
insert_entry_new origin memory (e ∷ es) none = by (same_origin origin e.0) none (insert_entry_new origin memory es)
  where
    by : (b : Bool) → (b || list_any (λ m. same_origin origin m.0) es) ≡ false → (list_any (λ m. same_origin origin m.0) es ≡ false → insert_entry same_origin es origin memory ≡ es ++ (origin, memory) ∷ [])
        → cond b ((e.0, memory) ∷ es) (e ∷ insert_entry same_origin es origin memory) ≡ e ∷ (es ++ (origin, memory) ∷ [])
    by true h rest = absurd (true≢false h)
    by false h rest = ap (λ xs. e ∷ xs) (rest h)

-- what the look-up of an origin says of the memories
pub remembered_is : (origin : Origin) (es : List (Origin × Memory)) (found answer : Bool) → found ≡ is_some (lookup (same_origin origin) es) → found ≡ answer
    → list_any (λ m. same_origin origin m.0) es ≡ answer
remembered_is origin es found answer e is = sym (is_some_lookup (same_origin origin) es) ∙ sym e ∙ is

-- what a look-up gives is the memory
pub lookup_memory : (origin : Origin) (es : List (Origin × Memory)) → lookup (same_origin origin) es ≡ memory_of origin es
lookup_memory origin [] = refl
lookup_memory origin (e ∷ es) = ap (λ rest. cond (same_origin origin e.0) (Some e.1) rest) (lookup_memory origin es)

-- a discovery that isn't remembered is new where fewer than 256 are, and else has no place
pub is_new : (all : Discoveries) (origin : Origin) → list_any (λ m. same_origin origin m.0) all.memories ≡ false → length all.memories < 256 → heard_reply all origin ≡ New
is_new all origin unknown room = rw (unknown, lt-ltb (length all.memories) 256 room)

pub has_no_place : (all : Discoveries) (origin : Origin) → list_any (λ m. same_origin origin m.0) all.memories ≡ false → 256 ≤ length all.memories → heard_reply all origin ≡ NoPlace
has_no_place all origin unknown full = let no : nat_lt (length all.memories) 256 ≡ false = grind (arith, full) in rw (unknown, no)

pub is_known : (all : Discoveries) (origin : Origin) → list_any (λ m. same_origin origin m.0) all.memories ≡ true → heard_reply all origin ≡ Known
is_known all origin known = rw known

-- Who asked

-- a remembered discovery, where it was no search
pub asker_relay : (all : Discoveries) (own : Address) (origin : Origin) (m : Memory) → None ≡ own_search all own origin → Some m ≡ lookup (same_origin origin) all.memories → asker_of all own origin ≡ Some (Relay m.cause, m.topic)
asker_relay all own origin m none is = sym (ap (λ s. asked s (memory_of origin all.memories)) none) ∙ sym (ap (asked None) (is ∙ lookup_memory origin all.memories))

-- nobody
pub asker_none : (all : Discoveries) (own : Address) (origin : Origin) → None ≡ own_search all own origin → None ≡ lookup (same_origin origin) all.memories → asker_of all own origin ≡ None
asker_none all own origin none is = sym (ap (λ s. asked s (memory_of origin all.memories)) none) ∙ sym (ap (asked None) (is ∙ lookup_memory origin all.memories))
