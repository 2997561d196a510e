-- Messages that fit every limit that a plan may have: a noop, a wait, and a decline of a request that nobody listens for.
use Rattle.std.proofs.Common.{ℕ, ◌+◌, ◌≤◌, List, [], ◌++◌, length, arith}
use Rattle.std.proofs.lemmas.List.{length-append}
use Rattle.grasp_cbor.specs.Head.{HeadSize, direct, sized_head, shortest_size, shortest_head}
use Rattle.grasp_model_node.specs.Declines.{unlistened, declined_for}
use Rattle.grasp_model_node.specs.Queue.{encoding}
use Rattle.grasp_types.specs.declared.message.Message.TheVariants.{Noop, End, Wait}

sized_short : (size : HeadSize) (major n : ℕ) → length (sized_head size major n) ≤ 9
sized_short direct major n = omega arith
sized_short _ major n = omega arith

head_short : (major n : ℕ) → length (shortest_head major n) ≤ 9
unfolding shortest_head
head_short major n = sized_short (shortest_size n) major n

joined : (xs ys : List ℕ) (a b : ℕ) → length xs ≤ a → length ys ≤ b → length (xs ++ ys) ≤ a + b
joined xs ys a b h k = omega (arith, length-append xs ys, h, k)

at_most : (bytes : List ℕ) (a limit : ℕ) → length bytes ≤ a → a ≤ 2048 → 2048 ≤ limit → length bytes ≤ limit
at_most bytes a limit h k l = omega (arith, h, k, l)

none_short : length {A = ℕ} [] ≤ 0
none_short = omega arith

pub noop_short : (limit : ℕ) → 2048 ≤ limit → length (encoding Noop) ≤ limit
noop_short limit l =
    at_most (encoding Noop) 18 limit (joined (shortest_head 4 1) (shortest_head 0 0 ++ []) 9 9 (head_short 4 1) (joined (shortest_head 0 0) [] 9 0 (head_short 0 0) none_short)) (omega arith) l

pub wait_short : (session millis limit : ℕ) → 2048 ≤ limit → length (encoding (Wait session millis)) ≤ limit
wait_short session millis limit l =
    at_most (encoding (Wait session millis)) 36 limit
    (joined (shortest_head 4 3) (shortest_head 0 7 ++ (shortest_head 0 session ++ (shortest_head 0 millis ++ []))) 9 27 (head_short 4 3)
    (joined (shortest_head 0 7) (shortest_head 0 session ++ (shortest_head 0 millis ++ [])) 9 18 (head_short 0 7)
    (joined (shortest_head 0 session) (shortest_head 0 millis ++ []) 9 9 (head_short 0 session)
    (joined (shortest_head 0 millis) [] 9 0 (head_short 0 millis) none_short)))) (omega arith) l

-- the reason with its heads
abbrev refusal : List ℕ
refusal = shortest_head 4 2 ++ (shortest_head 0 102 ++ ((shortest_head 3 (length unlistened) ++ unlistened) ++ []))

pub decline_short : (session limit : ℕ) → 2048 ≤ limit → length (encoding (End session (declined_for unlistened))) ≤ limit
decline_short session limit l =
    at_most (encoding (End session (declined_for unlistened))) 100 limit
    (joined (shortest_head 4 3) (shortest_head 0 6 ++ (shortest_head 0 session ++ (refusal ++ []))) 9 91 (head_short 4 3)
    (joined (shortest_head 0 6) (shortest_head 0 session ++ (refusal ++ [])) 9 82 (head_short 0 6)
    (joined (shortest_head 0 session) (refusal ++ []) 9 73 (head_short 0 session)
    (joined refusal [] 73 0
    (joined (shortest_head 4 2) (shortest_head 0 102 ++ ((shortest_head 3 (length unlistened) ++ unlistened) ++ [])) 9 64 (head_short 4 2)
    (joined (shortest_head 0 102) ((shortest_head 3 (length unlistened) ++ unlistened) ++ []) 9 55 (head_short 0 102)
    (joined (shortest_head 3 (length unlistened) ++ unlistened) [] 55 0
    (joined (shortest_head 3 (length unlistened)) unlistened 9 46 (head_short 3 (length unlistened)) (omega arith)) none_short))) none_short)))) (omega arith) l
