-- What a drain gives, and that it changes nothing else.
use Rattle.std.proofs.Common.{◌≡◌, ◌≤◌, ◌-◌, inl, inr, ℕ, zero, suc, List, [], ◌∷◌, ◌++◌, length, map, take, drop, refl, sym, ap, ◌∙◌, subst, arith, fold}
use Rattle.std.specs.Prelude.{Contains}
use Rattle.std.proofs.lemmas.List.Elements.{Contains-get_or}
use Rattle.grasp_laws_node.proofs.Bounded.Nodes.{begin_kept}
use Rattle.grasp_laws_sending.proofs.Closings.{all_closings, closes_are, left_behind}
use Rattle.grasp_laws_sending.specs.Draining.{goes_out, Gives, HasSome, DrainDoes, DrainsAreExact}
use Rattle.grasp_model_node.specs.Begin.{begin}
use Rattle.grasp_model_node.specs.BoundedNodes.{IsBoundedNode}
use Rattle.grasp_model_node.specs.Draining.{closes, drained, after_drain}
use Rattle.grasp_model_node.specs.Node.{NodeState}
use Rattle.grasp_model_node.specs.Queue.{Queued, datagram, dial, send, output_of}
use Rattle.grasp_model_node.specs.Step.{Drains}
use Rattle.grasp_model_node.specs.Streams.{without, closing_numbers}
use Rattle.grasp_types.specs.declared.reply.Reply.{Reply}
use Rattle.grasp_types.specs.declared.reply.Reply.TheVariants as reply
use Rattle.grasp_types.specs.declared.traffic.Output.{Output}
use Rattle.grasp_types.specs.declared.traffic.Output.TheVariants.{Close}

out_is : (q : Queued) → output_of q ≡ goes_out q
out_is (datagram link to m) = refl
out_is (dial stream to) = refl
out_is (send stream m) = refl

outs_are : (qs : List Queued) → map output_of qs ≡ map goes_out qs
outs_are [] = refl
outs_are (q ∷ qs) = ap (λ o. o ∷ map output_of qs) (out_is q) ∙ ap (λ os. goes_out q ∷ os) (outs_are qs)

gives : (n : NodeState) (max : ℕ) → IsBoundedNode n → Gives n max (drained n max) (after_drain n max)
unfolding after_drain
gives n max k = record {
  closings = (all_closings n k).0;
  outputs_are =
      ap (λ os. os ++ map Close (closes n max)) (outs_are (take max n.queue)) ∙ ap (λ cs. map goes_out (take max n.queue) ++ map Close cs) closed;
  leads =
      ap (λ s. record n { queue = drop max n.queue; streams = s })
      (ap (λ (cs : List ℕ). fold without n.streams cs) closed ∙ left_behind (take (max - length n.queue) (all_closings n k).0.numbers) n.streams k.apart);
} where
  closed : closes n max ≡ take (max - length n.queue) (all_closings n k).0.numbers
  closed = closes_are n max ∙ ap (λ cs. take (max - length n.queue) cs) (sym (all_closings n k).1)

-- ---- where there is no memory

none_given : (n : NodeState) → drained n 0 ≡ []
none_given n =
    let none : 0 - length n.queue ≡ 0 = omega arith in
    ap (λ cs. map output_of (take 0 n.queue) ++ map Close cs) (closes_are n 0 ∙ ap (λ k. take k (closing_numbers n.streams)) none)

some_asked : (n : NodeState) (max : ℕ) → 1 ≤ length (drained n max) → 1 ≤ max
some_asked n zero h = let none : length (drained n 0) ≡ 0 = ap (λ (os : List Output). length os) (none_given n) in absurd (omega (arith, h, none))
some_asked n (suc max) h = omega arith

has_some : (n : NodeState) (max : ℕ) → IsBoundedNode n → 1 ≤ length (drained n max) → HasSome n
has_some n max k h = by_queue n.queue refl where
  closing : (numbers : List ℕ) → closing_numbers n.streams ≡ numbers → 1 ≤ length (map Close (take (max - length n.queue) numbers)) → HasSome n
  closing [] e f = absurd (none (max - length n.queue) f) where
    none : (count : ℕ) → 1 ≤ length (map Close (take count [])) → ⊥
    none zero g = omega (arith, g)
    none (suc count) g = omega (arith, g)
  closing (stream ∷ streams) e f =
      inr (stream, ((all_closings n k).0.each stream).0 (subst (λ (ns : List ℕ). Contains ns stream) (sym ((all_closings n k).1 ∙ e)) (Contains-get_or (stream ∷ streams) 0 stream (omega arith))))

  by_queue : (qs : List Queued) → n.queue ≡ qs → HasSome n
  by_queue [] e = closing (closing_numbers n.streams) refl (subst (λ (os : List Output). 1 ≤ length os) given h) where
    given : drained n max ≡ map Close (take (max - length n.queue) (closing_numbers n.streams))
    given = ap (λ (qs : List Queued). map output_of (take max qs) ++ map Close (closes n max)) e ∙ nothing max ∙ ap (λ cs. map Close cs) (closes_are n max) where
      nothing : (count : ℕ) → map output_of (take count []) ++ map Close (closes n max) ≡ map Close (closes n max)
      nothing zero = refl
      nothing (suc count) = refl
  by_queue (q ∷ qs) e = inl (let some : length n.queue ≡ length (q ∷ qs) = ap (λ (l : List Queued). length l) e in omega (arith, some))

does : (n after : NodeState) (max : ℕ) (r : Reply) → IsBoundedNode n → Drains n max r after → DrainDoes n max r after
does n after max (reply.Outputs outputs) k d = subst (λ (os : List Output). Gives n max os after) (sym d.0) (subst (Gives n max (drained n max)) (sym d.1) (gives n max k))
does n after max reply.OutOfMemory k d = (some_asked n max d.0, has_some n max k d.0, d.1)
does n after max _ k d = absurd d

pub drains_are_exact : DrainsAreExact
drains_are_exact n after now max x r k s = does (begin n now) after max r (begin_kept n now k) s.acts
