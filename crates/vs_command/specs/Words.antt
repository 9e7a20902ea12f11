-- The commands and options of the definitions, as the enums name them.
use Rattle.std.specs.Option.{option_copied}
use Rattle.vs_command.specs.declared.command.Command.{Command}
use Rattle.vs_command.specs.declared.command.Command.TheVariants.{Ping, Quit, Del, Exists, Vadd, Vrem, Vsim, Vcard, Vdim, Vemb, Vlinks, Vinfo, Vgetattr, Vsetattr, Vrandmember, Vismember}
use Rattle.vs_command.specs.declared.vadd.AddOption.{AddOption}
use Rattle.vs_command.specs.declared.vadd.AddOption.TheVariants.{Cas, Bin, Quantiser, Ef as AddEf, M, Setattr}
use Rattle.vs_command.specs.declared.vadd.AddOptions.{AddOptions}
use Rattle.vs_command.specs.declared.vsim.SimOption.{SimOption}
use Rattle.vs_command.specs.declared.vsim.SimOption.TheVariants.{Withscores, Withattribs, Truth, Nothread, Epsilon, Count, Ef as SimEf, FilterEf, Filter}
use Rattle.vs_command.specs.declared.vsim.SimOptions.{SimOptions}
use Rattle.vs_defs.specs.Read as read

abbrev pub command_seen : Command → read.Command
command_seen Ping = read.Ping
command_seen Quit = read.Quit
command_seen Del = read.Del
command_seen Exists = read.Exists
command_seen Vadd = read.Vadd
command_seen Vrem = read.Vrem
command_seen Vsim = read.Vsim
command_seen Vcard = read.Vcard
command_seen Vdim = read.Vdim
command_seen Vemb = read.Vemb
command_seen Vlinks = read.Vlinks
command_seen Vinfo = read.Vinfo
command_seen Vgetattr = read.Vgetattr
command_seen Vsetattr = read.Vsetattr
command_seen Vrandmember = read.Vrandmember
command_seen Vismember = read.Vismember

abbrev pub add_option_seen : AddOption → read.AddOption
add_option_seen Cas = read.Cas
add_option_seen Bin = read.Bin
add_option_seen Quantiser = read.Quantiser
add_option_seen AddEf = read.Ef
add_option_seen M = read.M
add_option_seen Setattr = read.Setattr

abbrev pub add_options_seen : AddOptions → read.AddOptions
add_options_seen o = record { cas = o.cas; ef = o.ef; m = o.m; attr = option_copied o.attr }

abbrev pub sim_option_seen : SimOption → read.SimOption
sim_option_seen Withscores = read.Withscores
sim_option_seen Withattribs = read.Withattribs
sim_option_seen Truth = read.Truth
sim_option_seen Nothread = read.Nothread
sim_option_seen Epsilon = read.Epsilon
sim_option_seen Count = read.Count
sim_option_seen SimEf = read.SimEf
sim_option_seen FilterEf = read.FilterEf
sim_option_seen Filter = read.Filter

abbrev pub sim_options_seen : SimOptions → read.SimOptions
sim_options_seen o = record {
  scores = o.scores;
  attrs = o.attrs;
  count = o.count;
  ef = o.ef;
  filter = o.filter;
  filter_ef = o.filter_ef;
  truth = o.truth;
  nothread = o.nothread;
}
