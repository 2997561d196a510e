use Rattle.std.proofs.Common.{rules, ◌≡◌, ◌-◌, ◌<◌, ◌∙◌, ℕ, ap}
use Rattle.grasp_pool.specs.Functions.{add, half_at, half_off}
use Rattle.grasp_pool.proofs.Splitting.{CanSplit, split_on, split_none, split_step}
use Rattle.grasp_pool.proofs.free_list.FreeList.+split_to.Goals as goal

pub split_to-requires : goal.split_to-requires
split_to-requires t c =
    let w = c.args.whole
    in let p = c.args.part
    in let can : CanSplit c.args.self.now w p = record { tidy = c.requires.tidy; room = c.requires.room; valid = c.requires.valid; longer = c.requires.longer; apart = c.requires.apart }
    in let on = split_on c.args.self.now c.halve_at-half.new.self w c.halve_at-half.result p c.address.result can (search rules) c.length-2.ensures.valid.most c.halve_at-half.ensures.value
    c.halve_at-half.ensures.is
    in let less : p.length - c.halve_at-half.result.length < p.length - w.length = on.1
    in (search rules, (on.0.tidy, (on.0.room, (on.0.valid, (on.0.longer, on.0.apart)))))

pub returns-then-length : goal.returns-then-length
returns-then-length t c =
    let w = c.args.whole
    in let p = c.args.part
    in let h = c.halve_at-half.result
    in let at : c.address.result ≡ p.address = c.address.ensures.value
    in split_step (p.length - w.length) (p.length - h.length) w h p.address c.args.self.now c.halve_at-half.new.self c.split_to.new.self (search rules)
    (c.halve_at-half.ensures.value ∙ ap (λ (n : ℕ). half_at w n) at) (c.halve_at-half.ensures.is ∙ ap (λ (n : ℕ). add (half_off w n) c.args.self.now) at) c.split_to.ensures

pub returns-else-length : goal.returns-else-length
returns-else-length t c = split_none (c.args.part.length - c.args.whole.length) c.args.whole c.args.part.address c.args.self.now (search rules)
