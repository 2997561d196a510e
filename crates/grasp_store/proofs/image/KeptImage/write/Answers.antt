use Rattle.std.proofs.Common.{rules, arith, ◌≡◌, ◌+◌, ◌*◌, ◌++◌, ◌∙◌, [], ap, length, vec_len}
use Rattle.std.specs.Int.{w16, w64, to_be_bytes}
use Rattle.grasp_pool.specs.declared.image.PoolImage.{PoolImage}
use Rattle.grasp_store.specs.Slots.{all_prefix_bytes, body_of}
use Rattle.grasp_store.proofs.Codec.{body_is, head_long}
use Rattle.grasp_store.proofs.image.KeptImage.write.Goals as goal

pub push_prefixes-requires-2 : goal.push_prefixes-requires-2
push_prefixes-requires-2 c =
    let e0 : c.clear.new.self.items ≡ [] = search rules
    in let e1 : c.push.new.body.items ≡ c.clear.new.self.items ++ to_be_bytes w64 c.args.number = search rules
    in let e2 : c.push-2.new.body.items ≡ c.push.new.body.items ++ to_be_bytes w16 (length c.self.inside.free.items) = search rules
    in let e3 : c.push-3.new.body.items ≡ c.push-2.new.body.items ++ to_be_bytes w16 (length c.self.inside.doubtful.items) = search rules
    in let e4 : c.push_prefixes.new.body.items ≡ c.push-3.new.body.items ++ all_prefix_bytes c.self.inside.free.items = search rules
    in let long : length c.push_prefixes.new.body.items ≡ 12 + 17 * length c.self.inside.free.items
    = head_long c.args.number (length c.self.inside.free.items) (length c.self.inside.doubtful.items) c.self.inside.free.items c.clear.new.self.items c.push.new.body.items c.push-2.new.body.items c.push-3.new.body.items
    c.push_prefixes.new.body.items e0 e1 e2 e3 e4
    in let same : vec_len c.push_prefixes.new.body ≡ length c.push_prefixes.new.body.items = search rules
    in let behind : length c.deref-2.result.now ≡ length c.self.inside.doubtful.items = search rules
    in let free : length c.self.inside.free.items ≡ length c.args.self.now.free = ap (λ (i : PoolImage). length i.free) c.self.view_is
    in let doubtful : length c.self.inside.doubtful.items ≡ length c.args.self.now.doubtful = ap (λ (i : PoolImage). length i.doubtful) c.self.view_is
    in omega (arith, long, same, behind, free, doubtful, c.requires.few, c.requires.room, c.clear.ensures.capacity, c.push.ensures.capacity, c.push-2.ensures.capacity, c.push-3.ensures.capacity, c.push_prefixes.ensures.capacity)

pub returns-clause-is : goal.returns-clause-is
returns-clause-is c =
    let e0 : c.clear.new.self.items ≡ [] = search rules
    in let e1 : c.push.new.body.items ≡ c.clear.new.self.items ++ to_be_bytes w64 c.args.number = search rules
    in let e2 : c.push-2.new.body.items ≡ c.push.new.body.items ++ to_be_bytes w16 (length c.self.inside.free.items) = search rules
    in let e3 : c.push-3.new.body.items ≡ c.push-2.new.body.items ++ to_be_bytes w16 (length c.self.inside.doubtful.items) = search rules
    in let e4 : c.push_prefixes.new.body.items ≡ c.push-3.new.body.items ++ all_prefix_bytes c.self.inside.free.items = search rules
    in let e5 : c.push_prefixes-2.new.body.items ≡ c.push_prefixes.new.body.items ++ all_prefix_bytes c.self.inside.doubtful.items = search rules
    in body_is c.args.number (record { free = c.self.inside.free.items; doubtful = c.self.inside.doubtful.items }) c.clear.new.self.items c.push.new.body.items c.push-2.new.body.items c.push-3.new.body.items
    c.push_prefixes.new.body.items c.push_prefixes-2.new.body.items e0 e1 e2 e3 e4 e5
    ∙ ap (λ (i : PoolImage). body_of (record { number = c.args.number; image = i })) c.self.view_is
