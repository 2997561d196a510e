-- One more part is written.
use Rattle.std.proofs.Common.{◌≡◌, ℕ, ◌+◌, List, ◌++◌, take, Some, slice_get, sym, ap, subst, ◌∙◌, append_assoc}
use Rattle.grasp_cbor.specs.DataItem.{DataItem, data_items, data_pairs}
use Rattle.grasp_cbor.proofs.Places.{take_got}
use Rattle.grasp_cbor.specs.Encodable.{IsEncodable, AreEncodable, ArePairsEncodable}
use Rattle.grasp_cbor.specs.Shortest.{shortest, shortest_items, shortest_pairs}
use Rattle.grasp_cbor.proofs.Counts.{shortest_items-push, shortest_pairs-push, AreEncodable-push, ArePairsEncodable-push}

pub record IsListStep (ts : List DataItem) (i : ℕ) (old new : List ℕ) : Type 0 where
  pub written : new ≡ old ++ shortest_items (data_items (take i ts))
  pub encodable : AreEncodable (data_items (take i ts))

pub list_step : (ts : List DataItem) (i : ℕ) (t : DataItem) (old mid new : List ℕ) → Some t ≡ slice_get ts i → IsListStep ts i old mid → new ≡ mid ++ shortest t → IsEncodable t → IsListStep ts (i + 1) old new
list_step ts i t old mid new e s n f = record {
  written =
      n ∙ ap (λ x. x ++ shortest t) s.written ∙ append_assoc old (shortest_items (data_items (take i ts))) (shortest t)
      ∙ ap (λ x. old ++ x) (sym (ap (λ ys. shortest_items (data_items ys)) (take_got ts i t (sym e)) ∙ shortest_items-push (take i ts) t));
  encodable = subst (λ ys. AreEncodable (data_items ys)) (sym (take_got ts i t (sym e))) (AreEncodable-push (take i ts) t s.encodable f);
}

pub record IsMapStep (es : List (DataItem × DataItem)) (i : ℕ) (old new : List ℕ) : Type 0 where
  pub written : new ≡ old ++ shortest_pairs (data_pairs (take i es))
  pub encodable : ArePairsEncodable (data_pairs (take i es))

pub map_step : (es : List (DataItem × DataItem)) (i : ℕ) (k v : DataItem) (old mid keyed new : List ℕ) → Some (k, v) ≡ slice_get es i → IsMapStep es i old mid → keyed ≡ mid ++ shortest k → new ≡ keyed ++ shortest v → IsEncodable k → IsEncodable v → IsMapStep es (i + 1) old new
map_step es i k v old mid keyed new e s n m f g = record {
  written =
      m ∙ ap (λ x. x ++ shortest v) n ∙ append_assoc mid (shortest k) (shortest v)
      ∙ ap (λ x. x ++ (shortest k ++ shortest v)) s.written ∙ append_assoc old (shortest_pairs (data_pairs (take i es))) (shortest k ++ shortest v)
      ∙ ap (λ x. old ++ x) (sym (ap (λ ys. shortest_pairs (data_pairs ys)) (take_got es i (k, v) (sym e)) ∙ shortest_pairs-push (take i es) (k, v)));
  encodable = subst (λ ys. ArePairsEncodable (data_pairs ys)) (sym (take_got es i (k, v) (sym e))) (ArePairsEncodable-push (take i es) (k, v) s.encodable f g);
}
