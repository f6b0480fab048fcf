use Rattle.clock.specs.Version.{fits_of}
use borrow.Author.Tests.{eq-eqb, le-leb, le-ltb, lt-leb, lt-ltb, ne_eqb}
use Rattle.clock.proofs.version_vector.fit.Goals as goal
use Rattle.clock.proofs.version_vector.fit.Goals.{then-members-lt2-via-then-members-lt2, then-members-lt2-via-else-members-lt2+then-members-gt-MEMBERS, then-members-lt2-via-else-members-lt2+else-members-gt-MEMBERS+then-members-other, then-members-place-via-then-members-place, then-members-place-via-else-members-place+then-members-another}

pub returns-then-members-lt2 : goal.returns-then-members-lt2
unfolding fits_of
returns-then-members-lt2 c = elim c.then-members-lt2.branch [
  | then-members-lt2-via-then-members-lt2 w ↦ rw (lt-ltb _ _ w.if-members-lt2.true)
  | then-members-lt2-via-else-members-lt2+then-members-gt-MEMBERS w ↦ rw (lt-ltb _ _ w.if-members-gt-MEMBERS.true, le-ltb _ _ w.if-members-lt2.false)
  | then-members-lt2-via-else-members-lt2+else-members-gt-MEMBERS+then-members-other w ↦ rw (ne_eqb _ _ w.if-members-other.true, le-ltb _ _ w.if-members-gt-MEMBERS.false, le-ltb _ _ w.if-members-lt2.false)
]

pub returns-then-members-place : goal.returns-then-members-place
unfolding fits_of
returns-then-members-place c = elim c.then-members-place.branch [
  | then-members-place-via-then-members-place w ↦ rw (le-leb _ _ w.if-members-place.true, eq-eqb _ _ c.if-members-other.false, le-ltb _ _ c.if-members-gt-MEMBERS.false, le-ltb _ _ c.if-members-lt2.false)
  | then-members-place-via-else-members-place+then-members-another w ↦ rw (le-leb _ _ w.if-members-another.true, lt-leb _ _ w.if-members-place.false, eq-eqb _ _ c.if-members-other.false, le-ltb _ _ c.if-members-gt-MEMBERS.false, le-ltb _ _ c.if-members-lt2.false)
]

pub returns : goal.returns
unfolding fits_of
returns c = rw (lt-leb _ _ c.if-members-another.false, lt-leb _ _ c.if-members-place.false, eq-eqb _ _ c.if-members-other.false, le-ltb _ _ c.if-members-gt-MEMBERS.false, le-ltb _ _ c.if-members-lt2.false)
