use Rattle.std.proofs.Common.{rules, arith, ◌≡◌, ◌≤◌, ◌+◌, ◌*◌, ◌++◌, ◌∷◌, [], ◌∙◌, List, ap, sym, drop, take}
use Rattle.std.proofs.lemmas.List.{take_all, take_more}
use Rattle.grasp_types.specs.Prefix.{AddressBlock as Prefix}
use Rattle.grasp_store.specs.Reading.{entry_in}
use Rattle.grasp_store.specs.Slots.{prefixes_in}
use Rattle.grasp_store.proofs.Entries.{entry_at, length-prefixes}
use Rattle.grasp_store.proofs.image.read_entries.Goals as goal

pub loop-i-preserved : goal.loop-i-preserved
loop-i-preserved c =
    let ps = prefixes_in c.args.count (drop (12 + 17 * c.args.from) c.args.bytes.now)
    in let p = c.in-Some.prefix
    in let is : c.in-Some.prefix ≡ entry_in c.args.bytes.now (c.args.from + c.loop-i.i) = search rules
    in let pushed : c.push.new.self.items ≡ c.loop-i.list.items ++ c.in-Some.prefix ∷ [] = search rules
    in record {
      is = pushed ∙ ap (λ (qs : List Prefix). qs ++ p ∷ []) c.loop-i.invariant.is
          ∙ ap (λ (q : Prefix). take c.loop-i.i ps ++ q ∷ []) (is ∙ sym (entry_at c.args.bytes.now c.args.from c.args.count c.loop-i.i p c.loop-i-test.true))
          ∙ sym (take_more ps c.loop-i.i p (omega (arith, c.loop-i-test.true, length-prefixes c.args.count (drop (12 + 17 * c.args.from) c.args.bytes.now))));
      memory = search rules;
    }

pub returns-clause-is : goal.returns-clause-is
returns-clause-is c =
    let past : c.args.count ≤ c.loop-i.i = search rules
    in c.loop-i.invariant.is ∙ take_all c.loop-i.i (prefixes_in c.args.count (drop (12 + 17 * c.args.from) c.args.bytes.now))
    (omega (arith, past, length-prefixes c.args.count (drop (12 + 17 * c.args.from) c.args.bytes.now)))
