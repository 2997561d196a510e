-- Facts of registered objectives that several crates use.
use Rattle.std.proofs.Common.{List, ℕ, ◌≡◌, true}
use Rattle.std.proofs.lemmas.Slice.Eq.{bytes_eq-Decides}
use Rattle.grasp_asa.specs.Registrations.{is_named}
use Rattle.grasp_asa.specs.declared.entry.Registered.{Registered}

-- a registered objective that passes the test for a name has it
pub name_means : (name : List ℕ) (o : Registered) → is_named name o ≡ true → o.name ≡ name
name_means name o e = (bytes_eq-Decides o.name name).0 e
