-- What a node answers to a discovery, and what it remembers of it.
use Rattle.std.proofs.Common.{◌≡◌, ◌≢◌, ℕ, ◌<◌, ◌≤◌, Bool, true, false, cond, nat_lt, nat_eq, length, refl, sym, ap, arith, ltb-true}
use Rattle.std.proofs.lemmas.List.Elements.{Contains-push}
use Rattle.grasp_types.specs.declared.objective.Objective.{Objective}
use Rattle.grasp_types.specs.declared.origin.Origin.{Origin}
use Rattle.grasp_types.specs.declared.session.Kind.TheVariants.{Negotiation, Synchronization}
use Rattle.grasp_types.specs.Reading.{reading_after}
use Rattle.grasp_types.specs.Same.{same_origin}
use Rattle.grasp_types.proofs.Same.{same_origin_decides}
use Rattle.grasp_discovery.specs.declared.answers.Cause.{Cause}
use Rattle.grasp_discovery.specs.declared.answers.Heard.TheVariants.{Known, NoPlace, New}
use Rattle.grasp_discovery.specs.declared.memory.Memory.{Memory}
use Rattle.grasp_discovery.specs.Discoveries.{Discoveries, remembers, memory_from, end_of}
use Rattle.grasp_laws_tables.specs.Discoveries.{IsHeardAs, DiscoveriesAreKnown, IsMemoryOf, RemembersIt, MemoriesAreOfDiscoveries, LocatorsEndInTime}
use Rattle.grasp_laws_tables.proofs.Lists.{one_passes, none_passes, one_more}
use Rattle.grasp_laws_tables.proofs.SearchLaws.{other_origin}

same_means : (origin : Origin) (memory : Origin × Memory) → same_origin origin memory.0 ≡ true → memory.0 ≡ origin
same_means origin memory e = sym ((same_origin_decides origin memory.0).0 e)

pub discoveries_known : DiscoveriesAreKnown
discoveries_known all origin = by (remembers all origin) (nat_lt (length all.memories) 256) refl refl
  where
    by : (known room : Bool) → remembers all origin ≡ known → nat_lt (length all.memories) 256 ≡ room → IsHeardAs all origin (cond known Known (cond room New NoPlace))
    by true room e l = one_passes (λ memory. same_origin origin memory.0) (λ memory. memory.0 ≡ origin) (same_means origin) all.memories e
    by false true e l = (none_passes (λ memory. same_origin origin memory.0) (λ memory. memory.0 ≢ origin) (other_origin origin) all.memories e, ltb-true (length all.memories) 256 l)
    by false false e l =
        let full : 256 ≤ length all.memories = grind (arith, l) in
        (none_passes (λ memory. same_origin origin memory.0) (λ memory. memory.0 ≢ origin) (other_origin origin) all.memories e, full)

memory_of : (now : ℕ) (cause : Cause) (objective : Objective) → IsMemoryOf now cause objective (memory_from now cause objective)
memory_of now cause objective = record {
  cause = refl;
  name = refl;
  negotiation = λ e. ap (λ b. cond b Negotiation Synchronization) e;
  synchronization = λ e. ap (λ b. cond b Negotiation Synchronization) e;
  end = refl;
}

remembers_it : (all : Discoveries) (origin : Origin) (memory : Memory) → RemembersIt all origin memory
remembers_it all origin memory = record {
  memories = one_more all.memories (origin, memory);
  itself = Contains-push all.memories (origin, memory);
  searches = refl;
  entries = refl;
}

pub memories_of : MemoriesAreOfDiscoveries
memories_of = record { memory = memory_of; new = remembers_it; known = λ all origin memory. refl; no_place = λ all origin memory. refl }

-- When locators end

after_some : (now ttl : ℕ) → 0 < ttl → end_of now ttl ≡ reading_after now ttl
after_some now ttl h = let some : nat_eq ttl 0 ≡ false = grind (arith, h) in ap (λ b. reading_after now (cond b 600000 ttl)) some

pub end_in_time : LocatorsEndInTime
end_in_time = record { none = λ now. refl; some = after_some }
