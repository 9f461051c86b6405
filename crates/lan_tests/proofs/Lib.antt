mod Stations
