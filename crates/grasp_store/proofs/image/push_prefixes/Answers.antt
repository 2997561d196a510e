use Rattle.std.proofs.Common.{rules, arith, ◌≡◌, ◌≤◌, ◌++◌, ◌+◌, ◌∷◌, [], ◌∙◌, ℕ, List, ap, sym, length, drop, append_assoc, length-append, vec_len}
use Rattle.std.specs.Int.{w128, to_be_bytes}
use Rattle.std.proofs.lemmas.List.{append-nil, drop_all, length-drop}
use Rattle.grasp_store.specs.Slots.{all_prefix_bytes}
use Rattle.grasp_store.proofs.Codec.{no_prefixes, prefix_next}
use Rattle.grasp_store.proofs.image.push_prefixes.Goals as goal

pub loop-prefix-preserved : goal.loop-prefix-preserved
loop-prefix-preserved c =
    let ps = c.args.prefixes.now
    in let i = c.loop-prefix.prefix-index
    in let p = c.prefix-item.result
    in let address : c.to_be_bytes.result ≡ to_be_bytes w128 c.prefix-item.result.address = search rules
    in let first : c.push.new.body.items ≡ c.loop-prefix.body.items ++ c.prefix-item.result.length ∷ [] = search rules
    in let both : c.push-in-loop-prefix.new.body.items ≡ c.push.new.body.items ++ to_be_bytes w128 c.prefix-item.result.address = search rules
    in let all : c.push-in-loop-prefix.new.body.items ≡ c.loop-prefix.body.items ++ (c.prefix-item.result.length ∷ to_be_bytes w128 c.prefix-item.result.address)
    = both ∙ ap (λ (l : List ℕ). l ++ to_be_bytes w128 p.address) first ∙ append_assoc c.loop-prefix.body.items (p.length ∷ []) (to_be_bytes w128 p.address)
    in let long : vec_len c.push-in-loop-prefix.new.body ≡ length c.push-in-loop-prefix.new.body.items = search rules
    in let short : vec_len c.loop-prefix.body ≡ length c.loop-prefix.body.items = search rules
    in record {
      is = ap (λ (l : List ℕ). l ++ all_prefix_bytes (drop (i + 1) ps)) all
          ∙ append_assoc c.loop-prefix.body.items (p.length ∷ to_be_bytes w128 p.address) (all_prefix_bytes (drop (i + 1) ps))
          ∙ ap (λ (l : List ℕ). c.loop-prefix.body.items ++ l) (prefix_next ps i p c.loop-prefix-test.true c.prefix-item.is) ∙ c.loop-prefix.invariant.is;
      room = omega (
        arith,
        long,
        short,
        ap length all,
        length-append c.loop-prefix.body.items (p.length ∷ to_be_bytes w128 p.address),
        length-drop (i + 1) ps,
        length-drop i ps,
        c.loop-prefix-test.true,
        c.loop-prefix.invariant.room,
        c.push.ensures.capacity,
        c.push-in-loop-prefix.ensures.capacity,
      );
      capacity = omega (arith, c.loop-prefix.invariant.capacity, c.push.ensures.capacity, c.push-in-loop-prefix.ensures.capacity);
    }

pub returns-clause-is : goal.returns-clause-is
returns-clause-is c =
    let past : length c.args.prefixes.now ≤ c.loop-prefix.prefix-index = search rules
    in sym (append-nil c.loop-prefix.body.items) ∙ ap (λ (l : List ℕ). c.loop-prefix.body.items ++ l) (sym (no_prefixes (drop c.loop-prefix.prefix-index c.args.prefixes.now)
    (drop_all c.loop-prefix.prefix-index c.args.prefixes.now past))) ∙ c.loop-prefix.invariant.is
