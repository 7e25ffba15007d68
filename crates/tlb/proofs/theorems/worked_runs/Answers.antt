use Rattle.std.specs.Prelude.{refl}
use Rattle.tlb.specs.Access.{judged}
use Rattle.tlb.specs.Model.{translate, fetch, hinted, tried, noted, unhinted, looked, walked, judge, keep, line_for, invalidate, retag, broadcast}
use Rattle.tlb.specs.Model.{folded}
use Rattle.tlb.specs.Runs.{run, model_run}
use Rattle.tlb.specs.Tlb.{flush_of, drop_page_of, page_dropped, drop_asid_of, asid_dropped, retag_of, invalidate_of, broadcast_of, get_of, put_of}
use Rattle.tlb.specs.Tlb.{place_of, blanks, no_hints, no_tallies}
use Rattle.tlb.specs.Translate.{miss_in, walked_in}
use Rattle.tlb.proofs.theorems.worked_runs.Goals as goal

-- by computation, on the cache and on the plain model
pub returns : goal.returns
unfolding run model_run translate fetch hinted tried noted unhinted looked walked judge keep line_for invalidate retag broadcast folded
    flush_of drop_page_of page_dropped drop_asid_of asid_dropped retag_of invalidate_of broadcast_of
    miss_in walked_in get_of put_of judged place_of blanks no_hints no_tallies
returns c =
    record {
      block = record { cache = refl; model = refl };
      levels = record { cache = refl; model = refl };
      places = record { cache = refl; model = refl };
      covers = record { cache = refl; model = refl };
      rights = ((refl, refl, refl, refl, refl, refl), (refl, refl, refl, refl, refl, refl));
      fetches = record { cache = refl; model = refl };
      flat = record { cache = refl; model = refl };
      pending = ((refl, refl, refl), (refl, refl, refl));
    }
