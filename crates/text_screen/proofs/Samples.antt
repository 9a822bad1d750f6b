-- The samples hold by computation.
use mathlib.Core.Path.{refl}
use Rattle.script_numbers.specs.Decimals.{decimal, last_digits}
use Rattle.quorum.specs.Check.{in_range_up_to, is_unsafe, margin, judged, verdict}
use Rattle.quorum.specs.Proposal.{proposal_of}
use Rattle.quorum.specs.Threshold.{threshold_of}
use Rattle.text_screen.specs.Screen.{verdict_text, margin_text, events_text, fits_text, limit_text, threshold_text, thresholds_text}
use Rattle.text_screen.specs.Samples.{joined, Reports, Proposals}

pub reports : Reports
unfolding decimal last_digits joined verdict_text margin_text events_text fits_text limit_text threshold_text verdict judged in_range_up_to is_unsafe margin threshold_of
reports =
    record { accepted = refl; unsafe = refl; below_zero = refl; stalls = refl; outside = refl; no_servers = refl }

pub proposals : Proposals
unfolding decimal last_digits joined threshold_text thresholds_text proposal_of threshold_of
proposals =
    record {
      one = refl;
      several = refl;
      no_faults = refl;
      none = refl;
      alone = refl;
      largest = refl;
      too_many = refl;
      faults_above_n = refl;
      no_servers = refl;
    }
