-- What the events of a network bring to a member, the network gives it.
use Rattle.std.proofs.Common.{refl}
use Rattle.grasp_laws_members.specs.Coming.{GivesWhatComes}

pub gives_what_comes : GivesWhatComes
gives_what_comes = record {
  datagrams = λ s w own index d found. (index, refl, record { datagram = d; found = found; receiver = refl; link_is = refl; from_is = refl; bytes_are = refl });
  arrivals = λ s w node own k t near found waits to dialler.
      (k, refl, record { talk = t; found = found; waits = waits; to = to; near = near; dialler = dialler; number = refl; from_is = refl });
  pieces = λ s w node own k stream count far t found reached end.
      (k, far, count, refl, record { at = record { talk = t; found = found; reached = reached; end = end }; bytes_are = refl });
  closings = λ s w node own k stream far t found reached end. (k, far, refl, record { talk = t; found = found; reached = reached; end = end });
  drains = λ s w node own max. refl;
  moments = λ runs s w node x e is gives enough. (is, gives, enough);
}
