use Rattle.points.specs.Word.{sum_range_of}
use Rattle.points.proofs.WordLaws.{sum_read, sum_read_high}
use Rattle.points.proofs.word.sum_range_on.Goals as goal

pub returns : goal.returns
unfolding sum_range_of
returns c = rw c.number_range_on-one.ensures (λ i. record { low = sum_read c.args.axis i; high = sum_read_high c.args.axis i })
