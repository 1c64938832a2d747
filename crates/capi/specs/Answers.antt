-- The libraries' answers as the structs that C sees: what is said of a refusal, and the values of each case, as they are defined beside their types.
--     of_verdict v      what every answer starts with: number, place, witness and position; number 0 and zeros where nothing is refused
--     of_table_read x    and the table, zero where it is refused
--     of_written w      and the file's length
--     of_image_read x    and the image's width and height
--     of_passed p       and 1 for 01's "at rest", 0 for "changed"
--     of_figured x      and balance and cover
--     of_opened x       and the quota, also where it is refused
--     of_metered x      and 1 for "at rest", 0 for "changed", and the quota, also where it is refused
-- Assumes nothing.
use Rattle.std.specs.Prelude.{Result}
use Rattle.capi.specs.declared.ChannelProgress.{ChannelProgress}
use Rattle.capi.specs.declared.Checked.{Checked}
use Rattle.capi.specs.declared.FiguresAnswer.{FiguresAnswer}
use Rattle.capi.specs.declared.FileLength.{FileLength}
use Rattle.capi.specs.declared.ImageSize.{ImageSize}
use Rattle.capi.specs.declared.Progress.{Progress}
use Rattle.capi.specs.declared.QuotaAnswer.{QuotaAnswer}
use Rattle.capi.specs.declared.TableAnswer.{TableAnswer}
use Rattle.history.specs.Answers.{passed_stable, figured_balance, figured_cover, Passed, Figured}
use Rattle.image.specs.Answers.{read_width, read_height}
use Rattle.image.specs.File.{ImageRead}
use Rattle.job.specs.declared.channel.Metered.{Metered}
use Rattle.job.specs.declared.quota.Opened.{Opened}
use Rattle.table.specs.declared.Table.{Table}
use Rattle.table.specs.File.{record_of}
use Rattle.verdict.specs.Answers.{said, written_length, verdict_of}
use Rattle.verdict.specs.Rules.{Verdict, Refusal}
use Rattle.verdict.specs.Writer.{Written}

abbrev pub of_verdict : Verdict → Checked
of_verdict v = record { number = (said v).number; place = (said v).place; witness = (said v).witness; position = (said v).position }

abbrev pub of_table_read : Result Table Refusal → TableAnswer
of_table_read x = record { checked = of_verdict (verdict_of x); table = record_of x }

abbrev pub of_written : Written → FileLength
of_written w = record { checked = of_verdict (verdict_of w); length = written_length w }

abbrev pub of_image_read : ImageRead → ImageSize
of_image_read x = record { checked = of_verdict (verdict_of x); width = read_width x; height = read_height x }

abbrev pub of_passed : Passed → Progress
of_passed p = record { checked = of_verdict (verdict_of p); stable = passed_stable p }

abbrev pub of_figured : Figured → FiguresAnswer
of_figured x = record { checked = of_verdict (verdict_of x); balance = figured_balance x; cover = figured_cover x }

abbrev pub of_opened : Opened → QuotaAnswer
of_opened x = record { checked = of_verdict x.answer; quota = x.quota }

abbrev pub of_metered : Metered → ChannelProgress
of_metered x = record { checked = of_verdict (verdict_of x.answer); stable = passed_stable x.answer; quota = x.quota }
