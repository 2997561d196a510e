-- What a node answers to a flood, and what is left of what floods told.
use Rattle.std.proofs.Common.{zero, suc, ◌≡◌, ◌≢◌, ℕ, ◌<◌, ◌≤◌, Bool, true, false, cond, nat_lt, nat_eq, max, List, [], ◌∷◌, length, map, Option, Some, None, inl, inr, refl, sym, ap, ◌∙◌, true≢false, arith, ltb-true}
use Rattle.std.specs.List.{AllZip}
use Rattle.grasp_types.specs.declared.origin.Origin.{Origin}
use Rattle.grasp_types.specs.Origin.{origin_of}
use Rattle.grasp_types.specs.Same.{same_origin}
use Rattle.grasp_types.specs.Reading.{reading_after}
use Rattle.grasp_types.proofs.Same.{same_origin_decides}
use Rattle.grasp_flood.specs.declared.heard.Heard.TheVariants.{Known, NoPlace, New}
use Rattle.grasp_flood.specs.declared.keys.FloodKey.{FloodKey}
use Rattle.grasp_flood.specs.declared.kept.FloodKept.{FloodKept}
use Rattle.grasp_flood.specs.Flood.{same_key}
use Rattle.grasp_flood.specs.Floods.{remembers, is_made_by, after_renewal, later_end, end_of}
use Rattle.grasp_flood.proofs.SameKeys.{same_key_decides}
use Rattle.grasp_laws_tables.specs.Floods.{IsHeardAs, FloodsAreKnown, IsRenewed, KnownFloodsRenew, DropsTakeOne, IsLater, FloodEndsAreLater}
use Rattle.grasp_laws_tables.proofs.Lists.{one_passes, none_passes, has_dropped, one_more}

-- A test that decides whether two are one

same_means : (flood : Origin) (memory : Origin × ℕ) → same_origin flood memory.0 ≡ true → memory.0 ≡ flood
same_means flood memory e = sym ((same_origin_decides flood memory.0).0 e)

other_means : (flood : Origin) (memory : Origin × ℕ) → same_origin flood memory.0 ≡ false → memory.0 ≢ flood
other_means flood memory e same = true≢false (sym ((same_origin_decides flood memory.0).1 (sym same)) ∙ e)

pub floods_known : FloodsAreKnown
floods_known floods flood = by (remembers floods flood) (nat_lt (length floods.memories) 256) refl refl
  where
    by : (known room : Bool) → remembers floods flood ≡ known → nat_lt (length floods.memories) 256 ≡ room → IsHeardAs floods flood (cond known Known (cond room New NoPlace))
    by true room e l = one_passes (λ memory. same_origin flood memory.0) (λ memory. memory.0 ≡ flood) (same_means flood) floods.memories e
    by false true e l = (none_passes (λ memory. same_origin flood memory.0) (λ memory. memory.0 ≢ flood) (other_means flood) floods.memories e, ltb-true (length floods.memories) 256 l)
    by false false e l =
        let full : 256 ≤ length floods.memories = grind (arith, l) in
        (none_passes (λ memory. same_origin flood memory.0) (λ memory. memory.0 ≢ flood) (other_means flood) floods.memories e, full)

-- What a known flood renews

renewed : (flood : Origin) (last : Option ℕ) (entry : FloodKey × FloodKept) → IsRenewed flood last entry (after_renewal flood last entry)
renewed flood last entry = by (is_made_by flood entry) refl
  where
    by : (b : Bool) → same_origin flood (origin_of entry.1.session entry.0.initiator) ≡ b
        → IsRenewed flood last entry (cond b (entry.0, record entry.1 { end = later_end entry.1.end last }) entry)
    by true e = record { made = λ _. refl; other = λ n. absurd (n ((same_origin_decides flood (origin_of entry.1.session entry.0.initiator)).0 e)) }
    by false e = record {
      made = λ is. absurd (true≢false (sym ((same_origin_decides flood (origin_of entry.1.session entry.0.initiator)).1 is) ∙ e));
      other = λ _. refl;
    }

all_renewed : (flood : Origin) (last : Option ℕ) (es : List (FloodKey × FloodKept)) → AllZip (IsRenewed flood last) es (map (after_renewal flood last) es)
all_renewed flood last [] = tt
all_renewed flood last (e ∷ es) = (renewed flood last e, all_renewed flood last es)

pub known_renew : KnownFloodsRenew
known_renew floods now flood ttl parts = (
  record { entries = all_renewed flood (end_of now ttl) floods.entries; memories = refl },
  one_more floods.memories (flood, reading_after now 120000),
  refl,
)

-- What a drop leaves

key_means : (key : FloodKey) (entry : FloodKey × FloodKept) → same_key key entry.0 ≡ true → entry.0 ≡ key
key_means key entry e = sym ((same_key_decides key entry.0).0 e)

is_key : (key : FloodKey) (entry : FloodKey × FloodKept) → entry.0 ≡ key → same_key key entry.0 ≡ true
is_key key entry same = (same_key_decides key entry.0).1 (sym same)

pub drops_one : DropsTakeOne
drops_one floods key = record {
  entries = has_dropped (λ entry. same_key key entry.0) (λ entry. entry.0 ≡ key) (key_means key) (is_key key) floods.entries;
  memories = refl;
}

-- When it ends

later : (a b : Option ℕ) → IsLater a b
later None b = record { one = inl refl; first = tt; second = tt }
later (Some a) None = record { one = inr refl; first = tt; second = tt }
later (Some a) (Some b) = by (nat_lt a b) refl
  where
    by : (t : Bool) → nat_lt a b ≡ t → IsLater (Some a) (Some b)
    by true e = let same : max a b ≡ b = grind (arith, e) in record { one = inr (ap Some same); first = grind (arith, e); second = grind (arith, e) }
    by false e = let same : max a b ≡ a = grind (arith, e) in record { one = inl (ap Some same); first = grind (arith, e); second = grind (arith, e) }

after : (now ttl : ℕ) → 0 < ttl → end_of now ttl ≡ Some (reading_after now ttl)
after now zero h = absurd (omega arith)
after now (suc ttl) h = let some : nat_eq (suc ttl) 0 ≡ false = grind arith in ap (λ b. cond b None (Some (reading_after now (suc ttl)))) some

pub ends_later : FloodEndsAreLater
ends_later = record { never = λ now. refl; after = after; later = later }
