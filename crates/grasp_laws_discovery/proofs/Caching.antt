-- Cached locators that were answered: what a response, the end of a lifetime and a look-up leave of them.
use Rattle.std.proofs.Common.{◌≡◌, refl, sym, subst, ◌||◌, nat_lt, ℕ, Bool, true, false, cond, max, List, [], ◌∷◌, length, map, Option, None, Some, All}
use Rattle.std.specs.Prelude.{option_map}
use Rattle.std.proofs.lemmas.List.Elements.{All-nil, All-cons, All-head, All-tail, All-map, All-filter, All-weaker}
use Rattle.grasp_discovery.proofs.SameTopics.{same_topic_decides}
use Rattle.grasp_discovery.specs.Discoveries.{Discoveries, cached_under, locators_of, is_live, live, least_left, known_of, has_locator, put_locator, keep_locator, keep_locators, put_entry, has_place, after_response, after_answered, live_entry, has_any, after_expiry}
use Rattle.grasp_discovery.specs.Topic.{same_topic}
use Rattle.grasp_discovery.specs.declared.answers.Answered.{Answered}
use Rattle.grasp_discovery.specs.declared.cached.Cached.{Cached}
use Rattle.grasp_discovery.specs.declared.topic.Topic.{Topic}
use Rattle.grasp_types.specs.Same.{same_locator}
use Rattle.grasp_types.specs.declared.address.Locator.{Locator}
use Rattle.grasp_model_network.specs.Setting.{Setting}
use Rattle.grasp_model_network.specs.World.{WorldState}
use Rattle.grasp_laws_discovery.specs.Locators.{WasAnswered, IsEntryReal}

-- the cached locators were answered for this
abbrev pub AreCached : Setting → WorldState → Topic → List Cached → Type 0
AreCached s w topic cached = All (λ one. WasAnswered s w topic one.locator) cached

-- each cached locator was answered for the topic under which it is cached
abbrev pub AreEntries : Setting → WorldState → Discoveries → Type 0
AreEntries s w d = All (IsEntryReal s w) d.entries

module _ (s : Setting) (w : WorldState) where
  abbrev cached_so : Topic → Cached → Type 0
  cached_so topic one = WasAnswered s w topic one.locator

  under_real : (topic : Topic) (entries : List (Topic × List Cached)) → All (IsEntryReal s w) entries → AreCached s w topic (cached_under topic entries)
  under_real topic [] all = All-nil (cached_so topic)
  under_real topic (entry ∷ rest) all = by_test (same_topic topic entry.0) (same_topic_decides topic entry.0).0 (under_real topic rest (All-tail (IsEntryReal s w) entry rest all)) where
    by_test : (b : Bool) → (b ≡ true → topic ≡ entry.0) → AreCached s w topic (cached_under topic rest) → AreCached s w topic (cond b entry.1 (cached_under topic rest))
    by_test true same k = subst (λ t. AreCached s w t entry.1) (sym (same refl)) (All-head (IsEntryReal s w) entry rest all)
    by_test false same k = k

  put_real : (topic : Topic) (new : Locator) (last : ℕ) (cached : List Cached) → WasAnswered s w topic new → AreCached s w topic cached → AreCached s w topic (put_locator new last cached)
  put_real topic new last [] is all = All-cons (cached_so topic) (record { locator = new; end = last }) [] is (All-nil (cached_so topic))
  put_real topic new last (old ∷ rest) is all = by_test (same_locator new old.locator) (put_real topic new last rest is (All-tail (cached_so topic) old rest all)) where
    by_test : (b : Bool) → AreCached s w topic (put_locator new last rest) → AreCached s w topic (cond b (record old { end = max old.end last } ∷ rest) (old ∷ put_locator new last rest))
    by_test true k = All-cons (cached_so topic) (record old { end = max old.end last }) rest (All-head (cached_so topic) old rest all) (All-tail (cached_so topic) old rest all)
    by_test false k = All-cons (cached_so topic) old (put_locator new last rest) (All-head (cached_so topic) old rest all) k

  keep_real : (topic : Topic) (last : ℕ) (cached : List Cached) (locator : Locator) → WasAnswered s w topic locator → AreCached s w topic cached → AreCached s w topic (keep_locator last cached locator)
  keep_real topic last cached locator is all = by_test (has_locator locator cached || nat_lt (length cached) 8) where
    by_test : (b : Bool) → AreCached s w topic (cond b (put_locator locator last cached) cached)
    by_test true = put_real topic locator last cached is all
    by_test false = all

  keeps_real : (topic : Topic) (last : ℕ) (locators : List Locator) (cached : List Cached) → All (WasAnswered s w topic) locators → AreCached s w topic cached
      → AreCached s w topic (keep_locators last cached locators)
  keeps_real topic last [] cached are all = all
  keeps_real topic last (l ∷ ls) cached are all =
      keeps_real topic last ls (keep_locator last cached l) (All-tail (WasAnswered s w topic) l ls are) (keep_real topic last cached l (All-head (WasAnswered s w topic) l ls are) all)

  entry_real : (topic : Topic) (cached : List Cached) (entries : List (Topic × List Cached)) → AreCached s w topic cached → All (IsEntryReal s w) entries
      → All (IsEntryReal s w) (put_entry topic cached entries)
  entry_real topic cached [] is all = All-cons (IsEntryReal s w) (topic, cached) [] is (All-nil (IsEntryReal s w))
  entry_real topic cached (old ∷ rest) is all =
      by_test (same_topic topic old.0) (same_topic_decides topic old.0).0 (entry_real topic cached rest is (All-tail (IsEntryReal s w) old rest all))
    where
      by_test : (b : Bool) → (b ≡ true → topic ≡ old.0) → All (IsEntryReal s w) (put_entry topic cached rest) → All (IsEntryReal s w) (cond b ((old.0, cached) ∷ rest) (old ∷ put_entry topic cached rest))
      by_test true same k = All-cons (IsEntryReal s w) (old.0, cached) rest (subst (λ t. AreCached s w t cached) (same refl) is) (All-tail (IsEntryReal s w) old rest all)
      by_test false same k = All-cons (IsEntryReal s w) old (put_entry topic cached rest) (All-head (IsEntryReal s w) old rest all) k

  response_real : (entries : List (Topic × List Cached)) (topic : Topic) (last : ℕ) (locators : List Locator) → All (WasAnswered s w topic) locators → All (IsEntryReal s w) entries
      → All (IsEntryReal s w) (after_response entries topic last locators)
  response_real entries topic last locators are all = by_test (has_place topic entries) where
    by_test : (b : Bool) → All (IsEntryReal s w) (cond b (put_entry topic (keep_locators last (cached_under topic entries) locators) entries) entries)
    by_test true =
        entry_real topic (keep_locators last (cached_under topic entries) locators) entries (keeps_real topic last locators (cached_under topic entries) are (under_real topic entries all)) all
    by_test false = all

  -- the locators of a response were answered for what the asker looks for
  abbrev pub AreAsked : List Locator → Option (Answered × Topic) → Type 0
  AreAsked locators None = Unit {0}
  AreAsked locators (Some asker) = All (WasAnswered s w asker.1) locators

  pub answered_entries : (d : Discoveries) (last : ℕ) (locators : List Locator) (asker : Option (Answered × Topic)) → AreAsked locators asker → AreEntries s w d
      → AreEntries s w (after_answered d last locators asker)
  answered_entries d last locators (Some asker) are all = response_real d.entries asker.1 last locators are all
  answered_entries d last locators None are all = all

  pub expiry_entries : (d : Discoveries) (now : ℕ) → AreEntries s w d → AreEntries s w (after_expiry d now)
  expiry_entries d now all =
      All-filter has_any (IsEntryReal s w) (map (live_entry now) d.entries)
      (All-map (IsEntryReal s w) (live_entry now) d.entries
      (All-weaker (IsEntryReal s w) (λ entry. IsEntryReal s w (live_entry now entry)) (λ entry k. All-filter (is_live now) (cached_so entry.0) entry.1 k) d.entries all))

  -- ---- what is known, and what is found

  -- the locators that are told, where there are any
  abbrev pub AreTold : Topic → Option (List Locator) → Type 0
  AreTold topic None = Unit {0}
  AreTold topic (Some locators) = All (WasAnswered s w topic) locators

  locators_real : (topic : Topic) (cached : List Cached) → AreCached s w topic cached → AreTold topic (locators_of cached)
  locators_real topic [] all = tt
  locators_real topic (one ∷ rest) all = All-map (WasAnswered s w topic) (λ (x : Cached). x.locator) (one ∷ rest) all

  pub found_real : (d : Discoveries) (topic : Topic) → AreEntries s w d → AreTold topic (locators_of (cached_under topic d.entries))
  found_real d topic all = locators_real topic (cached_under topic d.entries) (under_real topic d.entries all)

  abbrev pub AreKnown : Topic → Option (List Locator × ℕ) → Type 0
  AreKnown topic None = Unit {0}
  AreKnown topic (Some known) = All (WasAnswered s w topic) known.0

  mapped_real : (topic : Topic) (least : ℕ) (o : Option (List Locator)) → AreTold topic o → AreKnown topic (option_map (λ locators. (locators, least)) o)
  mapped_real topic least None all = tt
  mapped_real topic least (Some locators) all = all

  pub known_real : (d : Discoveries) (topic : Topic) (now : ℕ) → AreEntries s w d → AreKnown topic (known_of d topic now)
  known_real d topic now all =
      mapped_real topic (least_left now (live now (cached_under topic d.entries))) (locators_of (live now (cached_under topic d.entries)))
      (locators_real topic (live now (cached_under topic d.entries)) (All-filter (is_live now) (cached_so topic) (cached_under topic d.entries) (under_real topic d.entries all)))
