use Rattle.std.proofs.Common.{rules, ◌≡◌, ◌+◌, ◌-◌, ◌<◌, ◌^◌, refl, arith}
use Rattle.grasp_pool.specs.Spans.{size}
use Rattle.grasp_pool.proofs.Dyadic.{ends_within, size_pos}
use Rattle.grasp_pool.proofs.Meeting.{meets}
use Rattle.grasp_pool.proofs.overlapping.overlaps.Goals as goal

pub overflow_add-second_start : goal.overflow_add-second_start
overflow_add-second_start c =
    let q = c.args.second
    in let w = ends_within q c.size_of-second_size.ensures.valid
    in let pos = size_pos q
    in let e : c.size_of-second_size.result ≡ size q = c.size_of-second_size.ensures.value
    in let s : c.address-second_start.result ≡ q.address = c.address-second_start.ensures.value
    in let b : c.address-second_start.result + (c.size_of-second_size.result - 1) < 2 ^ 128 = omega arith
    in search rules

pub overflow_add-first_start : goal.overflow_add-first_start
overflow_add-first_start c =
    let q = c.args.first
    in let w = ends_within q c.size_of-first_size.ensures.valid
    in let pos = size_pos q
    in let e : c.size_of-first_size.result ≡ size q = c.size_of-first_size.ensures.value
    in let s : c.address-first_start.result ≡ q.address = c.address-first_start.ensures.value
    in let b : c.address-first_start.result + (c.size_of-first_size.result - 1) < 2 ^ 128 = omega arith
    in search rules

pub returns : goal.returns
returns c =
    let e : c.size_of-first_size.result ≡ size c.args.first = c.size_of-first_size.ensures.value
    in let f : c.size_of-second_size.result ≡ size c.args.second = c.size_of-second_size.ensures.value
    in let s : c.address-first_start.result ≡ c.args.first.address = c.address-first_start.ensures.value
    in let t : c.address-second_start.result ≡ c.args.second.address = c.address-second_start.ensures.value
    in (λ _. meets c.args.first c.args.second (search rules) (search rules), λ m. refl)
