-- What links in memory give.
use Rattle.std.proofs.Common.{◌≡◌, ◌≤◌, ◌<◌, ℕ, length, get_or, Some, true, false, sym, refl, subst}
use Rattle.std.proofs.lemmas.Bool.{le-leb}
use Rattle.std.specs.Prelude.{slice_get, nat_le, ◌==◌}
use Rattle.std.specs.List.{list_any}
use Rattle.std.proofs.lemmas.Option.{slice_get_read}
use Rattle.grasp_types.specs.declared.traffic.Input.{Input}
use Rattle.grasp_io.specs.declared.links.Asked.TheVariants.{Got}
use Rattle.grasp_io.specs.declared.memory_links.Arrival.{Arrival}
use Rattle.grasp_io.specs.Memory.{one_more, next_fails}
use Rattle.grasp_io.specs.MemoryLinks.{LinksState, comes, can_come, IsAsked}

given_is : (links : LinksState) (arrival : Arrival) → next_fails links.quiet links.asks ≡ false
    → slice_get links.arrivals links.next ≡ Some arrival → nat_le arrival.ask (one_more links.asks) ≡ true
    → can_come links.opened arrival.input ≡ true → comes links ≡ Some arrival.input
given_is links arrival q s t o = rw q (rw s (rw t (rw o refl)))

-- the input of an arrival whose time has come is given to an ask that isn't a quiet one
pub arrival_comes : (links : LinksState) (arrival : Arrival) (input : Input) (number : ℕ) → number ≡ one_more links.asks
    → list_any (λ n. n == number) links.quiet ≡ false → links.next < length links.arrivals
    → arrival ≡ get_or links.arrivals links.next arrival → arrival.ask ≤ number → true ≡ can_come links.opened arrival.input
    → input ≡ arrival.input → IsAsked (comes links) (Got input)
arrival_comes links arrival input number n q l a t o e =
    let quiet : next_fails links.quiet links.asks ≡ false = subst (λ k. list_any (λ n. n == k) links.quiet ≡ false) n q in
    let time : nat_le arrival.ask (one_more links.asks) ≡ true = le-leb arrival.ask _ (subst (λ k. arrival.ask ≤ k) n t) in
    let found : slice_get links.arrivals links.next ≡ Some arrival = slice_get_read links.arrivals _ links.next arrival refl l a in
    rw (given_is links arrival quiet found time (sym o)) e
