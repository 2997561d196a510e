-- Where no two searches were begun under one session number at one address, address and number settle what is looked for.
use Rattle.std.proofs.Common.{◌≡◌, sym, ap, ◌∙◌, subst, ℕ, ◌<◌, List, map, length, ◌⊎◌, inl, inr}
use Rattle.std.specs.Prelude.{AllPairs, slice_index_or}
use Rattle.std.proofs.lemmas.Bool.{cases_order}
use Rattle.std.proofs.lemmas.List.{get_or-map, get_or_default, length-map}
use Rattle.grasp_model_network.specs.World.{SearchCall}
use Rattle.grasp_laws_floods.specs.Sought.{Sought, AreSettled}

abbrev search_of : Sought → SearchCall
search_of x = x.search

-- they were begun at different addresses or under different numbers
abbrev pub AreApart : SearchCall → SearchCall → Type 0
AreApart a b = ¬ ((a.address ≡ b.address) × (a.session ≡ b.session))

module _ (xs : List Sought) (differ : AllPairs AreApart (map search_of xs)) where
  at_place : (i : ℕ) (x : Sought) (d : SearchCall) → i < length xs → slice_index_or xs i x ≡ x → slice_index_or (map search_of xs) i d ≡ x.search
  at_place i x d within at = get_or-map search_of xs i x d within ∙ ap search_of at

  -- no two searches at different places have address and number in common
  apart : (i j : ℕ) (a b : Sought) → i < j → i < length xs → j < length xs → slice_index_or xs i a ≡ a → slice_index_or xs j b ≡ b → a.search.address ≡ b.search.address
      → a.search.session ≡ b.search.session → ⊥
  apart i j a b less in_a in_b at_a at_b address session =
      let first : slice_index_or (map search_of xs) i a.search ≡ a.search = at_place i a a.search in_a at_a in
      let second : slice_index_or (map search_of xs) j a.search ≡ b.search = at_place j b a.search in_b at_b in
      differ i j a.search less (subst (λ n. j < n) (sym (length-map xs search_of)) in_b) (
        ap (λ (c : SearchCall). c.address) first ∙ (address ∙ sym (ap (λ (c : SearchCall). c.address) second)),
        ap (λ (c : SearchCall). c.session) first ∙ (session ∙ sym (ap (λ (c : SearchCall). c.session) second)),
      )

  pub are_settled : AreSettled xs
  are_settled a b (i, in_a, at_a) (j, in_b, at_b) address session = by_order (cases_order i j) where
    by_order : (i ≡ j) ⊎ ((i < j) ⊎ (j < i)) → a ≡ b
    by_order (inl e) = sym at_a ∙ (get_or_default xs i a b in_a ∙ (ap (λ k. slice_index_or xs k b) e ∙ at_b))
    by_order (inr (inl less)) = absurd (apart i j a b less in_a in_b at_a at_b address session)
    by_order (inr (inr more)) = absurd (apart j i b a more in_b in_a at_b at_a (sym address) (sym session))
